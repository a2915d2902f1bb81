use Rattle.std.proofs.Common.{◌≡◌, [], refl, sym, ap, ◌∙◌, drop, slice_get}
use Rattle.std.specs.Option.{option_map}
use Rattle.patricia_c.proofs.BlockLemmas.{walks_next, walks_full}
use Rattle.patricia_c.proofs.blocks.write_entries.Goals as goal

pub loop-walk-init : goal.loop-walk-init
loop-walk-init c = record {
  fills = record { entries = []; rest = c.args.walk.now.left; split = refl; begin = refl; written = c.requires };
  rest = refl;
}

pub returns-then-not-write_next-clause-full : goal.returns-then-not-write_next-clause-full
returns-then-not-write_next-clause-full c n same none =
    let at : c.advance.new.self.at ≡ slice_get c.loop-walk.walk.left 0 = ap (λ s. s.at) c.in_ok-advance.ensures.advanced in
    let begun = sym c.starts_with.ensures.value ∙ c.if-not-starts_with.false in
    walks_full _ _ _ _ _ _ _ _ _ _ c.loop-walk.invariant c.in-Some-Some.key.now n (c.in-Some-Some.ensures.key ∙ ap (option_map (λ e. e.0)) at)
    begun (ap (λ f. f.count) (sym (c.if-not-write_next.ensures.filled refl)) ∙ none) (c.if-not-write_next.ensures.full refl) (cc)

pub loop-walk-preserved : goal.loop-walk-preserved
loop-walk-preserved c =
    let at : c.advance.new.self.at ≡ slice_get c.loop-walk.walk.left 0 = ap (λ s. s.at) c.in_ok-advance.ensures.advanced in
    let left : c.advance.new.self.left ≡ drop 1 c.loop-walk.walk.left = ap (λ s. s.left) c.in_ok-advance.ensures.advanced in
    let begun = sym c.starts_with.ensures.value ∙ c.if-not-starts_with.false in
    walks_next _ _ _ _ _ _ _ _ _ _ c.loop-walk.invariant c.in-Some-Some.key.now c.in-Some-Some.value.now _ _ _ _ _
    (c.in-Some-Some.ensures.key ∙ ap (option_map (λ e. e.0)) at) (c.in-Some-Some.ensures' ∙ ap (option_map (λ e. e.1)) at) left begun
    (c.if-not-write_next.ensures.written refl _ _ _ _ c.loop-walk.invariant.fills.written)
