-- Lines that are cut off the front of bytes, and answered together.
use Rattle.std.proofs.Common.{◌≡◌, ◌==◌, ℕ, zero, suc, ◌+◌, ◌-◌, ◌<◌, ◌≤◌, Bool, true, false, ◌||◌}
use Rattle.std.proofs.Common.{List, [], ◌∷◌, ◌++◌, length, get_or, take, drop, map as list_map}
use Rattle.std.proofs.Common.{Bor, Option, None, Some, IfSome, refl, sym, ap, subst, ◌∙◌, arith}
use Rattle.std.proofs.Common.{inl, inr, not, ◌≢◌, ◌↔◌, IsTrue}
use Rattle.std.specs.FinMap as finite
use Rattle.std.specs.Global.{Vec}
use Rattle.std.specs.Io.BufRead.{DropsConsumable}
use Rattle.std.specs.Io.Buffered.{reader_buffer, reader_capacity, reader_remaining}
use Rattle.std.specs.Io.KnownBytes.{prepend_known}
use Rattle.std.specs.List.{All, FoldsTo, onto_first}
use Rattle.std.specs.Option.{is_some, option_map}
use Rattle.std.specs.Str.{IsUtf8}
use Rattle.std.specs.declared.io.buffered.BufReader.{BufReader}
use Rattle.std.proofs.Math.Bool.{or_assoc}
use Rattle.std.proofs.Math.Seq.{drop-append_seam}
use Rattle.std.proofs.lemmas.Bool.{cases_Bool, cond-true, cond-false, eqb-false, eqb-true}
use Rattle.std.proofs.lemmas.Bool.{false_from_ne_true, true≢false}
use Rattle.std.proofs.lemmas.Fn.{FoldsTo-push}
use Rattle.std.proofs.lemmas.List.{append_assoc, append-nil, map-append, take-append-drop}
use Rattle.std.proofs.lemmas.List.{get_or-map, length-map, length_push, length-append}
use Rattle.std.proofs.lemmas.List.{drop-append-le, take_more}
use Rattle.std.proofs.lemmas.List.Elements.{All-get_or, All-nil, All-push, All-same}
use Rattle.memchr.specs.Find.{is_byte, Passes, NoneBefore}
use Rattle.patricia_tree.specs.Keys.{key_cmp}
use Rattle.patricia_tree.specs.Prefixes.{longest}
use Rattle.patricia_tree.specs.Sets.{KeySet}
use Rattle.prefixes_core.specs.Answers.{IsFound, IsRightLine, Leaves, Writes, pieces_text}
use Rattle.prefixes_core.specs.Answers.{route_text}
use Rattle.prefixes_core.specs.Internal.Cuts.{AreAllSegments, pieces_in}
use Rattle.prefixes_core.specs.Internal.Together.{CutsLines, AnswersTogether}
use Rattle.prefixes_core.specs.Internal.Together.{AnswersFront, TakesTogether}
use Rattle.prefixes_core.specs.Lists.{cut_at, line_text, lines_of}
use Rattle.prefixes_core.specs.Segments.{AreSegments}
use Rattle.prefixes_core.specs.Turns.{Answered, AnswersLine, AnswersAll, answered}
use Rattle.prefixes_core.specs.declared.answering.Question.{Question}
use Rattle.prefixes_core.specs.declared.answering.Question.TheVariants as Questions
use Rattle.prefixes_core.specs.declared.answering.Style.{Style}
use Rattle.prefixes_core.specs.declared.answering.together.Together.{Together}
use Rattle.prefixes_core.specs.declared.lines.LineFormat.{LineFormat}
use Rattle.prefixes_core.proofs.AnswerLemmas.{is_some-map}
use Rattle.prefixes_core.proofs.LongestLemmas.{longest_at}
use Rattle.prefixes_core.proofs.SegmentLemmas.{empty_list}

-- the first line of bytes ends at the first byte that ends lines
first_at : (end : ℕ) (bytes more : List ℕ) (k : ℕ) → k < length bytes
    → ((i : ℕ) → i < k → (get_or bytes i 0 == end) ≡ false) → (get_or bytes k 0 == end) ≡ true
    → cut_at end (bytes ++ more) ≡ take k bytes ∷ cut_at end (drop (suc k) bytes ++ more)
first_at end [] more k inside before at = absurd (omega (arith, inside))
first_at end (b ∷ bytes) more zero inside before at = cond-true (b == end) _ _ at
first_at end (b ∷ bytes) more (suc k) inside before at =
    cond-false (b == end) _ _ (before 0 (omega arith))
    ∙ ap (onto_first b) (first_at end bytes more k (omega (arith, inside))
    (λ i less. before (suc i) (omega (arith, less))) at)

-- a line is cut off where such a byte is found
pub line_cut : (format : LineFormat) (bytes line : List ℕ) (k : ℕ)
    → NoneBefore (Passes (is_byte format.end) bytes) 0 (length bytes) k
    × Passes (is_byte format.end) bytes k → line ≡ line_text format (take k bytes)
    → CutsLines format bytes (line ∷ []) (drop (k + 1) bytes)
line_cut format bytes line k found is =
    let next : suc k ≡ k + 1 = omega arith in
    let none : (i : ℕ) → i < k → (get_or bytes i 0 == format.end) ≡ false =
    λ i less. false_from_ne_true _ (λ same. found.0.before i (omega arith) less same) in
    record {
      front = take (k + 1) bytes;
      joined = sym (take-append-drop (k + 1) bytes);
      first = λ more.
          ap (list_map (line_text format)) (first_at format.end bytes more k found.0.high none found.1)
          ∙ ap (λ l. l ∷ lines_of format (drop (suc k) bytes ++ more)) (sym is)
          ∙ ap (λ n. line ∷ lines_of format (drop n bytes ++ more)) next;
    }

module _ {L : Type 0} (content : L → List ℕ) where
  -- no line is cut off at first
  pub none_cut : (format : LineFormat) (bytes : List ℕ) (lines : List L) → lines ≡ []
      → CutsLines format bytes (list_map content lines) bytes
  none_cut format bytes lines none =
      subst (λ l. CutsLines format bytes (list_map content l) bytes) (sym none) (record {
        front = [];
        joined = refl;
        first = λ more. refl;
      })

  -- one line more is
  pub cut_more : (format : LineFormat) (bytes rest later : List ℕ) (lines more : List L) (line : L)
      → more ≡ lines ++ line ∷ [] → CutsLines format rest (content line ∷ []) later
      → CutsLines format bytes (list_map content lines) rest
      → CutsLines format bytes (list_map content more) later
  cut_more format bytes rest later lines more line is one so_far =
      let done = list_map content lines in
      let all : list_map content more ≡ done ++ content line ∷ [] =
      ap (list_map content) is ∙ map-append content lines (line ∷ []) in
      subst (λ l. CutsLines format bytes l later) (sym all) (record {
        front = so_far.front ++ one.front;
        joined = so_far.joined ∙ ap (λ l. so_far.front ++ l) one.joined
            ∙ sym (append_assoc so_far.front one.front later);
        first = λ behind.
            so_far.first behind ∙ ap (λ l. done ++ l) (one.first behind)
            ∙ sym (append_assoc done (content line ∷ []) (lines_of format (later ++ behind)));
      })

  -- there are as many lines as their list has
  pub as_many : (lines more : List L) (line : L) (n : ℕ) → more ≡ lines ++ line ∷ []
      → length lines ≤ n → length more ≤ n + 1
  as_many lines more line n is few = omega (arith, few, ap length is, length_push lines line)

  module _ (right : List ℕ → Type 0) where
    -- no line is wrong at first
    pub none_wrong : (lines : List L) → lines ≡ [] → All right (list_map content lines)
    none_wrong lines none =
        subst (λ l. All right (list_map content l)) (sym none) (All-nil right)

    -- and none where one more is right
    pub right_more : (lines more : List L) (line : L) → more ≡ lines ++ line ∷ []
        → right (content line) → All right (list_map content lines)
        → All right (list_map content more)
    right_more lines more line is one so_far =
        All-same right (list_map content more) (list_map content lines ++ content line ∷ [])
        (ap (list_map content) is ∙ map-append content lines (line ∷ []))
        (All-push right (list_map content lines) (content line) so_far one)

-- no line is answered at first
pub none_together : (style : Style) (question : Question) (lines : List (List ℕ))
    (old : List ℕ) → lines ≡ [] → AnswersTogether style question lines old old false
none_together style question lines old none =
    subst (λ l. AnswersTogether style question l old old false) (sym none)
    (record { written = []; behind = sym (append-nil old); answers = refl })

module _ (style : Style) (question : Question) where
  -- one line more is answered, and what is asked stays
  line_more : (done : List (List ℕ)) (line old so_far new : List ℕ) (found one : Bool)
      → IsRightLine question line → Writes style question line so_far new
      → IsFound question line one → Leaves question line question
      → AnswersTogether style question done old so_far found
      → AnswersTogether style question (done ++ line ∷ []) old new (found || one)
  line_more done line old so_far new found one right writes finds stays before =
      let own = writes.0 in
      record {
        written = before.written ++ own;
        behind = writes.1 ∙ ap (λ l. l ++ own) before.behind
            ∙ append_assoc old before.written own;
        answers = FoldsTo-push (AnswersLine style) (answered question [] false) done
            (answered question before.written found) line
            (answered question (before.written ++ own) (found || one)) before.answers (record {
              right = right;
              writes = (own, refl, writes.2);
              one = one;
              finds = finds;
              found = refl;
              leaves = stays;
            });
      }

  -- the next one of some lines is
  pub next_more : {L : Type 0} (content : L → List ℕ) (lines : List L) (i : ℕ) (d : L)
      (old so_far new : List ℕ) (found one : Bool) → i < length lines
      → IsRightLine question (content (get_or lines i d))
      → Writes style question (content (get_or lines i d)) so_far new
      → IsFound question (content (get_or lines i d)) one
      → Leaves question (content (get_or lines i d)) question
      → AnswersTogether style question (list_map content (take i lines)) old so_far found
      → AnswersTogether style question (list_map content (take (i + 1) lines)) old new
      (found || one)
  next_more content lines i d old so_far new found one inside right writes finds stays before =
      let line = get_or lines i d in
      let more : list_map content (take (i + 1) lines)
      ≡ list_map content (take i lines) ++ content line ∷ [] =
      ap (list_map content) (take_more lines i d inside)
      ∙ map-append content (take i lines) (line ∷ []) in
      subst (λ l. AnswersTogether style question l old new (found || one)) (sym more)
      (line_more (list_map content (take i lines)) (content line) old so_far new found one right
      writes finds stays before)

module _ (style : Style) (routes : finite.FinMap key_cmp (List ℕ)) where
  module _ (lines : List (Bor (List ℕ))) (found : List (Option (Bor (List ℕ) × Bor (List ℕ))))
      (all : list_map (option_map (λ r. (r.0.now, r.1.now))) found
      ≡ list_map (λ line. longest line.now (finite.entries routes)) lines) where
    -- one line more is routed
    pub line_routed : (i : ℕ) (line : Bor (List ℕ))
        (route : Option (Bor (List ℕ) × Bor (List ℕ))) (old so_far new : List ℕ) (seen one : Bool)
        → i < length lines → route ≡ get_or found i route
        → All IsUtf8 (list_map (λ l. l.now) lines)
        → new ≡ so_far ++ route_text style (get_or lines i line).now
        (option_map (λ r. (r.0.now, r.1.now)) route)
        → one ≡ is_some route
        → AnswersTogether style (Questions.Route routes) (list_map (λ l. l.now) (take i lines)) old
        so_far seen
        → AnswersTogether style (Questions.Route routes)
        (list_map (λ l. l.now) (take (i + 1) lines)) old new (seen || one)
    line_routed i line route old so_far new seen one inside is utf8 writes finds before =
        let next = get_or lines i line in
        let known = longest_at routes lines found all i line route inside is in
        let within : i < length (list_map (λ l. l.now) lines) =
        omega (arith, inside, length-map lines (λ l. l.now)) in
        next_more style (Questions.Route routes) (λ l. l.now) lines i line old so_far new seen one
        inside
        (subst IsUtf8 (get_or-map (λ l. l.now) lines i line [] inside)
        (All-get_or IsUtf8 (list_map (λ l. l.now) lines) i [] within utf8)) (
          route_text style next.now (longest next.now (finite.entries routes)),
          writes ∙ ap (λ r. so_far ++ route_text style next.now r) known,
          refl,
        )
        (finds ∙ is_some-map (λ r. (r.0.now, r.1.now)) route ∙ ap is_some known) refl before

-- a line has pieces exactly if it is not empty
has_pieces : (line : List ℕ) (b : Bool) → b ≡ (length line == 0) → IsTrue (not b) ↔ (line ≢ [])
has_pieces line true is = (
  λ some. absurd (true≢false (sym some)),
  λ some. absurd (some (empty_list line (eqb-true (length line) 0 (sym is)))),
)
has_pieces line false is =
    (λ some none. eqb-false (length line) 0 (sym is) (ap length none), λ some. refl)

module _ (style : Style) (words : KeySet) where
  -- one line more is cut into pieces
  pub line_segmented : (lines : List (Bor (List ℕ))) (pieces : List (Vec (Bor (List ℕ))))
      → AreAllSegments words (list_map (λ l. l.now) lines) (list_map pieces_in pieces)
      → (i : ℕ) (line : Bor (List ℕ)) (own : Vec (Bor (List ℕ))) (old so_far new : List ℕ)
      (seen empty : Bool) → i < length lines → own ≡ get_or pieces i own
      → All IsUtf8 (list_map (λ l. l.now) lines)
      → new ≡ so_far ++ pieces_text style (get_or lines i line).now (pieces_in own)
      → empty ≡ (length (get_or lines i line).now == 0)
      → AnswersTogether style (Questions.Segment words) (list_map (λ l. l.now) (take i lines)) old
      so_far seen
      → AnswersTogether style (Questions.Segment words)
      (list_map (λ l. l.now) (take (i + 1) lines)) old new (seen || not empty)
  line_segmented lines pieces all i line own old so_far new seen empty inside is utf8 writes
      finds before =
      let next = get_or lines i line in
      let within : i < length (list_map (λ l. l.now) lines) =
      omega (arith, inside, length-map lines (λ l. l.now)) in
      let behind : i < length pieces = omega (
        arith,
        within,
        all.lists,
        length-map pieces pieces_in,
      ) in
      let text = get_or-map (λ l. l.now) lines i line [] inside in
      let parts : get_or (list_map pieces_in pieces) i [] ≡ pieces_in own =
      get_or-map pieces_in pieces i own [] behind ∙ ap pieces_in (sym is) in
      next_more style (Questions.Segment words) (λ l. l.now) lines i line old so_far new seen
      (not empty) inside
      (subst IsUtf8 text (All-get_or IsUtf8 (list_map (λ l. l.now) lines) i [] within utf8)) (
        pieces_text style next.now (pieces_in own),
        writes,
        (
          pieces_in own,
          subst (λ p. AreSegments words next.now p) parts (subst
              (λ l. AreSegments words l (get_or (list_map pieces_in pieces) i [])) text
              (all.each i within)),
          refl,
        ),
      )
      (has_pieces next.now empty finds) refl before

-- answers come behind those that wait
pub together_behind : (style : Style) (question : Question) (lines : List (List ℕ))
    (none next old new : List ℕ) (found : Bool) → none ≡ []
    → AnswersTogether style question lines none next found → new ≡ old ++ next
    → AnswersTogether style question lines old new found
together_behind style question lines none next old new found empty answers is = record {
  written = answers.written;
  behind = is ∙ ap (λ l. old ++ l) (answers.behind ∙ ap (λ l. l ++ answers.written) empty);
  answers = answers.answers;
}

-- the first lines of bytes are cut off and answered
pub front_answered : {L : Type 0} (content : L → List ℕ) (style : Style) (format : LineFormat)
    (question : Question) (bytes rest none next old new : List ℕ) (lines : List L)
    (together : Together) → CutsLines format bytes (list_map content lines) rest
    → length lines ≡ together.count → together.len ≡ length bytes - length rest → none ≡ []
    → AnswersTogether style question (list_map content lines) none next together.is_found
    → new ≡ old ++ next → AnswersFront style format question bytes together old new
front_answered content style format question bytes rest none next old new lines together cuts
    counted sized empty answers is =
    let all = list_map content lines in
    let joined : length bytes ≡ length cuts.front + length rest =
    ap length cuts.joined ∙ length-append cuts.front rest in
    record {
      lines = all;
      rest = rest;
      cuts = cuts;
      counted = length-map lines content ∙ counted;
      sized = omega (arith, sized, joined);
      answers = together_behind style question all none next old new together.is_found empty
          answers is;
    }

-- none of them is
pub front_left : (style : Style) (format : LineFormat) (question : Question) (bytes old new : List ℕ)
    → new ≡ old
    → AnswersFront style format question bytes (record { count = 0; len = 0; is_found = false }) old
    new
front_left style format question bytes old new same = record {
  lines = [];
  rest = bytes;
  cuts = record { front = []; joined = refl; first = λ more. refl };
  counted = refl;
  sized = omega arith;
  answers = record { written = []; behind = same ∙ sym (append-nil old); answers = refl };
}

-- a reader's buffer is the front of what it has left
buffer_first : {T A : Type 0} (remaining : T → Option (List ℕ)) (reader : BufReader T A)
    → IfSome (reader_remaining remaining reader)
    (λ bytes. (more : List ℕ) × (bytes ≡ reader_buffer reader ++ more))
buffer_first remaining reader =
    elim (cases_Bool (reader_capacity reader == 0)) [
      | inl none ↦ subst IsFront (sym (cond-true (reader_capacity reader == 0) _ _ none)) tt
      | inr some ↦
          subst IsFront (sym (cond-false (reader_capacity reader == 0) _ _ some))
          (prepended (remaining reader.inner))
    ]
  where
    IsFront : Option (List ℕ) → Type 0
    IsFront known = IfSome known
        (λ bytes. (more : List ℕ) × (bytes ≡ reader_buffer reader ++ more))

    prepended : (known : Option (List ℕ)) → IsFront (prepend_known (reader_buffer reader) known)
    prepended None = tt
    prepended (Some more) = (more, refl)

module _ (style : Style) (format : LineFormat) (question : Question) where
  module _ (buffer old out : List ℕ) (together : Together)
      (front : AnswersFront style format question buffer together old out) where
    -- lines at the front of a buffer are taken by dropping their bytes
    dropped : (known new : Option (List ℕ))
        → IfSome known (λ bytes. (more : List ℕ) × (bytes ≡ buffer ++ more))
        → DropsConsumable known new (Some (length buffer)) together.len
        → IfSome known (λ bytes. TakesTogether style format question bytes new together.count old out
        together.is_found)
    dropped None new is drops = tt
    dropped (Some bytes) new is drops =
        let more = is.0 in
        let cuts = front.cuts in
        let size = together.len in
        let joined : length buffer ≡ length cuts.front + length front.rest =
        ap length cuts.joined ∙ length-append cuts.front front.rest in
        let sized : size ≡ length cuts.front = omega (arith, joined, front.sized) in
        let left : drop size bytes ≡ front.rest ++ more =
        ap (drop size) is.1
        ∙ drop-append-le size buffer more (omega (arith, front.sized))
        ∙ ap (λ l. l ++ more) (ap (λ n. drop n buffer) sized
        ∙ ap (drop (length cuts.front)) cuts.joined ∙ drop-append_seam cuts.front front.rest) in
        record {
          lines = front.lines;
          rest = front.rest ++ more;
          left_is = drops (omega (arith, front.sized)) ∙ ap Some left;
          first = ap (lines_of format) is.1 ∙ cuts.first more;
          counted = front.counted;
          answers = front.answers;
        }

    pub together_taken : {T A : Type 0} (remaining : T → Option (List ℕ)) (reader : BufReader T A)
        (new : Option (List ℕ)) → buffer ≡ reader_buffer reader
        → DropsConsumable (reader_remaining remaining reader) new
        (Some (length (reader_buffer reader))) together.len
        → IfSome (reader_remaining remaining reader)
        (λ bytes. TakesTogether style format question bytes new together.count old out
        together.is_found)
    together_taken remaining reader new is drops =
        let known = reader_remaining remaining reader in
        dropped known new
        (subst (λ b. IfSome known (λ bytes. (more : List ℕ) × (bytes ≡ b ++ more))) (sym is)
        (buffer_first remaining reader))
        (subst (λ b. DropsConsumable known new (Some (length b)) together.len) (sym is) drops)

-- one walk after the other is a walk over both
joined_walks : {P A : Type 0} (R : P → A → P → Type 0) (from mid to : P) (xs ys : List A)
    → FoldsTo R from xs mid → FoldsTo R mid ys to → FoldsTo R from (xs ++ ys) to
joined_walks R from mid to [] ys one other = subst (λ p. FoldsTo R p ys to) (sym one) other
joined_walks R from mid to (x ∷ xs) ys one other =
    (one.0, one.1, joined_walks R one.0 mid to xs ys one.2 other)

-- what is found, is found behind nothing
or_nothing : (b : Bool) → (b || false) ≡ b
or_nothing true = refl
or_nothing false = refl

module _ (style : Style) where
  -- answers stay what they are behind others
  behind_others : (text : List ℕ) (seen : Bool) (lines : List (List ℕ)) (from to : Answered)
      → FoldsTo (AnswersLine style) from lines to
      → FoldsTo (AnswersLine style)
      (answered from.question (text ++ from.written) (seen || from.found)) lines
      (answered to.question (text ++ to.written) (seen || to.found))
  behind_others text seen [] from to walk =
      ap (λ a. answered a.question (text ++ a.written) (seen || a.found)) walk
  behind_others text seen (line ∷ lines) from to walk =
      let mid = walk.0 in
      let step = walk.1 in (
        answered mid.question (text ++ mid.written) (seen || mid.found),
        record {
          right = step.right;
          writes = (
            step.writes.0,
            ap (λ l. text ++ l) step.writes.1
                ∙ sym (append_assoc text from.written step.writes.0),
            step.writes.2,
          );
          one = step.one;
          finds = step.finds;
          found = ap (λ b. seen || b) step.found ∙ sym (or_assoc seen from.found step.one);
          leaves = step.leaves;
        },
        behind_others text seen lines mid to walk.2,
      )

  -- lines that are answered together, behind others
  pub all_more : (first question : Question) (done lines : List (List ℕ)) (written own : List ℕ)
      (found one : Bool) → AnswersAll style first done (answered question written found)
      → AnswersAll style question lines (answered question own one)
      → AnswersAll style first (done ++ lines) (answered question (written ++ own) (found || one))
  all_more first question done lines written own found one before more =
      let start : answered question (written ++ []) (found || false)
      ≡ answered question written found =
      ap (λ l. answered question l (found || false)) (append-nil written)
      ∙ ap (answered question written) (or_nothing found) in
      let last = answered question (written ++ own) (found || one) in
      joined_walks (AnswersLine style) (answered first [] false) (answered question written found)
      last done lines before (subst (λ a. FoldsTo (AnswersLine style) a lines last) start
      (behind_others written found lines (answered question [] false)
      (answered question own one) more))
