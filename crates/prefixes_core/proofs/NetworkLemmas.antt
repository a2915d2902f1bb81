-- Names that write networks, and names that do not.
use Rattle.std.proofs.Common.{◌≢◌, ◌==◌, ◌<◌, ℕ, List, length, inl, inr, ap, subst, arith}
use Rattle.std.specs.List.{position_or_len}
use Rattle.std.specs.Net.Grammar.{IsIpText}
use Rattle.std.specs.declared.net.ip_addr.IpAddr.{IpAddr}
use Rattle.std.proofs.NetLemmas.Theorems.{IsIpText_unique}
use Rattle.std.proofs.lemmas.List.{length-take}
use Rattle.prefixes_core.specs.Networks.{address_part, length_part, width}
use Rattle.prefixes_core.specs.Networks.{FixesBits, IsLengthText, IsNetworkText, IsNetworkFault}
use Rattle.prefixes_core.specs.declared.networks.NetworkError.TheVariants as Faults

-- a name that has a slash differs from its address part
pub has_slash : (name : List ℕ) → position_or_len (λ b. b == 47) name < length name
    → address_part name ≢ name
has_slash name less whole =
    let size = length-take (position_or_len (λ b. b == 47) name) name in
    omega (arith, less, size, ap length whole)

-- an address that no right length follows is no network
pub no_length : (name : List ℕ) (address : IpAddr) → IsIpText (address_part name) address
    → address_part name ≢ name
    → ((count : ℕ) → IsLengthText (width address) (length_part name) count → ⊥)
    → IsNetworkFault name Faults.NoLength
no_length name address writes slash none =
    ((address, writes), λ network. refuted network.1)
  where
    by : (other : IpAddr) (count : ℕ) → IsIpText (address_part name) other
        → FixesBits name other count → ⊥
    by other count same (inl whole) = absurd (slash whole.0)
    by other count same (inr length) =
        none count (subst (λ a. IsLengthText (width a) (length_part name) count)
        (IsIpText_unique (address_part name) other address same writes) length.1)

    refuted : {key : List ℕ} → IsNetworkText name key → ⊥
    refuted network = by network.address network.count network.writes network.fixes
