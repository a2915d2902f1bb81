use Rattle.patricia_c.proofs.LoadLemmas.{ends, more, front_is, whole_is, left_is, late_is, in_order_is}
use Rattle.patricia_c.proofs.loading.load.Goals as goal

pub overflow_sub-loaded : goal.overflow_sub-loaded
overflow_sub-loaded c =
    let end = ends (λ q. q.now) (λ _ _ is. is) c.sorted_load-result.result c.args.stored.now.map c.sorted_load-result.new.self _ c.sorted_load-result.ensures.ok c.sorted_load-result.ensures.err in
    rw (c.len.ensures, c.len-before.ensures) (more _ _ _ _ _ _ c.requires.fit end)

pub returns-clause-loaded : goal.returns-clause-loaded
returns-clause-loaded c =
    let end = ends (λ q. q.now) (λ _ _ is. is) c.sorted_load-result.result c.args.stored.now.map c.sorted_load-result.new.self _ c.sorted_load-result.ensures.ok c.sorted_load-result.ensures.err in
    rw (c.len.ensures, c.len-before.ensures) (front_is _ _ _ _ _ _ c.requires.fit end)

pub returns-clause-all : goal.returns-clause-all
returns-clause-all c =
    let end = ends (λ q. q.now) (λ _ _ is. is) c.sorted_load-result.result c.args.stored.now.map c.sorted_load-result.new.self _ c.sorted_load-result.ensures.ok c.sorted_load-result.ensures.err in
    rw (c.len.ensures, c.len-before.ensures) (whole_is _ _ _ _ _ _ c.requires.fit end)

pub returns-clause-some_left : goal.returns-clause-some_left
returns-clause-some_left c =
    let end = ends (λ q. q.now) (λ _ _ is. is) c.sorted_load-result.result c.args.stored.now.map c.sorted_load-result.new.self _ c.sorted_load-result.ensures.ok c.sorted_load-result.ensures.err in
    rw (c.len.ensures, c.len-before.ensures) (left_is _ _ _ _ _ _ c.requires.fit end)

pub returns-clause-late : goal.returns-clause-late
returns-clause-late c =
    let end = ends (λ q. q.now) (λ _ _ is. is) c.sorted_load-result.result c.args.stored.now.map c.sorted_load-result.new.self _ c.sorted_load-result.ensures.ok c.sorted_load-result.ensures.err in
    rw (c.len.ensures, c.len-before.ensures) (late_is _ _ _ _ _ _ c.requires.fit end)

pub returns-clause-in_order : goal.returns-clause-in_order
returns-clause-in_order c =
    let end = ends (λ q. q.now) (λ _ _ is. is) c.sorted_load-result.result c.args.stored.now.map c.sorted_load-result.new.self _ c.sorted_load-result.ensures.ok c.sorted_load-result.ensures.err in
    rw (c.len.ensures, c.len-before.ensures) (in_order_is _ _ _ _ _ _ c.requires.fit end)
