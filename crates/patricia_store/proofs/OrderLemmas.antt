-- Heads that are linked by new numbers.
use Rattle.std.proofs.Common.{◌≡◌, ℕ, ◌+◌, ◌<◌, ◌≤◌, List, length, set, Some, slice_get}
use Rattle.std.proofs.Common.{inl, inr, refl, sym, ap, ◌∙◌, arith, length-set}
use Rattle.std.proofs.lemmas.Bool.{cases_eq}
use Rattle.std.proofs.lemmas.Option.{slice_get_within, same_Some}
use Rattle.patricia_store.specs.declared.head.Head.{Head}
use Rattle.patricia_store.specs.Internal.Renumbering.{place_of, moved_head, RenumbersHeads}
use Rattle.patricia_store.proofs.WriteLemmas.{get-set_same, get-set_other}

-- the heads up to a number have new links
pub record HeadsTo (places : List ℕ) (old : List Head) (n : ℕ) (new : List Head) : Type 0 where
  pub done : (at : ℕ) (h : Head) → at < n → slice_get old at ≡ Some h
      → slice_get new at ≡ Some (moved_head (place_of places at + 1) places h)
  pub left : (at : ℕ) → n ≤ at → slice_get new at ≡ slice_get old at
  pub long : length new ≡ length old

-- none has at first
pub heads_none : (places : List ℕ) (old : List Head) → HeadsTo places old 0 old
heads_none places old = record { done = λ at h short e. absurd (omega arith); left = λ at h. refl; long = refl }

-- the next one has them
pub heads_next : (places : List ℕ) (old : List Head) (n : ℕ) (new : List Head) (h k : Head) → HeadsTo places old n new
    → slice_get new n ≡ Some h → k ≡ moved_head (place_of places n + 1) places h
    → HeadsTo places old (n + 1) (set new n k)
heads_next places old n new h k r here is =
    let short = slice_get_within new n h here in
    record {
      done = λ at j less f. elim (cases_eq at n) [
        | inl same ↦
            let there : Some j ≡ Some h = sym f ∙ ap (slice_get old) same ∙ sym (r.left n (omega arith)) ∙ here in
            ap (slice_get (set new n k)) same ∙ get-set_same new n k short ∙ ap (λ x. Some x) is
            ∙ ap (λ i. Some (moved_head (place_of places i + 1) places h)) (sym same)
            ∙ ap (λ x. Some (moved_head (place_of places at + 1) places x)) (same_Some h j (sym there))
        | inr other ↦ get-set_other new n at k other ∙ r.done at j (omega (arith, less, other)) f
      ];
      left = λ at past. get-set_other new n at k (λ z. absurd (omega (arith, past, z))) ∙ r.left at (omega (arith, past));
      long = length-set new n k ∙ r.long;
    }

-- all have
pub heads_all : (places : List ℕ) (old : List Head) (n : ℕ) (new : List Head) → HeadsTo places old n new
    → length old ≤ n → RenumbersHeads places old new
heads_all places old n new r all = record {
  head = λ at h e. r.done at h (omega (arith, all, slice_get_within old at h e)) e;
  long = r.long;
}
