-- What tests that hold tell.
use Rattle.std.proofs.Common.{◌≡◌, Bool, true, false, T, ◌&&◌, refl}
use Rattle.std.specs.declared.cmp.Ordering.{Ordering}
use Rattle.std.specs.declared.cmp.Ordering.TheVariants.{Less, Equal, Greater}
use Rattle.std.specs.Ordering.{is_lt}

-- of two tests that hold, the first holds
pub first_part : (a b : Bool) → T (a && b) → T a
first_part true b h = tt
first_part false b h = h

-- and so does the second
pub second_part : (a b : Bool) → T (a && b) → T b
second_part true b h = h
second_part false b h = absurd h

-- an order that is tested to be less is less
pub less_so : (o : Ordering) → T (is_lt o) → o ≡ Less
less_so Less h = refl
less_so Equal h = absurd h
less_so Greater h = absurd h
