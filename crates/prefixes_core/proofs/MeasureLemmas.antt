-- What the labels of a list save.
use Rattle.std.proofs.Common.{◌≡◌, ◌+◌, ◌-◌, ◌*◌, ◌/◌, ◌%◌, ◌<◌, ◌≤◌, ◌⊎◌, ℕ, inl, inr, arith, min}
use Rattle.std.specs.Int.{div_ceil}
use Rattle.std.proofs.lemmas.Bool.{cases_lt}
use Rattle.std.proofs.lemmas.Nat.{div-add-mod', same_from_place, le-div, mod_below}
use Rattle.std.proofs.Common.{add-mul}
use Rattle.prefixes_core.specs.Measures.{saved_percent}

-- a quotient that is rounded down, and another one that is rounded up, are together 100
rounded : (n p r q s : ℕ) → 0 < n → r < n → s < n → p * n + r + (q * n + s) ≡ 100 * n
    → p ≡ 100 - (q + min 1 s)
rounded n p r q s some small also whole = by (cases_lt (r + s) n)
  where
    sum : (p + q) * n ≡ p * n + q * n
    sum = add-mul p q n

    by : (r + s < n) ⊎ (n ≤ r + s) → p ≡ 100 - (q + min 1 s)
    by (inl below) =
        let same = same_from_place (p + q) (r + s) 100 0 n below some (omega (arith, sum, whole)) in
        omega (arith, same.0, same.1)
    by (inr above) =
        let same = same_from_place (p + q) (r + s - n) 99 0 n (omega arith) some
        (omega (arith, sum, whole)) in
        omega (arith, same.0, same.1)

-- what is saved in hundredths is what is left of 100 where the hundredths of labels are rounded up
pub saved_is : (n l : ℕ) → 0 < n → 100 - div_ceil (l * 100) n ≡ saved_percent n l
saved_is n l some = by (cases_lt n l)
  where
    down : (n - l) * 100 / n * n + (n - l) * 100 % n ≡ (n - l) * 100
    down = div-add-mod' ((n - l) * 100) n

    up : l * 100 / n * n + l * 100 % n ≡ l * 100
    up = div-add-mod' (l * 100) n

    by : (n < l) ⊎ (l ≤ n) → 100 - div_ceil (l * 100) n ≡ saved_percent n l
    by (inl more) =
        let none = same_from_place ((n - l) * 100 / n) ((n - l) * 100 % n) 0 0 n
        (mod_below ((n - l) * 100) n some) some (omega (arith, down, more)) in
        omega (arith, none.0, le-div 100 (l * 100) n some (omega (arith, more)))
    by (inr less) =
        omega (
          arith,
          rounded n ((n - l) * 100 / n) ((n - l) * 100 % n) (l * 100 / n)
              (l * 100 % n) some (mod_below ((n - l) * 100) n some) (mod_below (l * 100) n some)
              (omega (arith, down, up, less)),
        )
