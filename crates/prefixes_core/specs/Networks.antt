-- Networks of addresses, the texts that write them, and tables of them.
use Rattle.std.specs.Prelude.{◌≡◌, ◌≢◌, ◌==◌, ◌≤◌, ◌⊎◌, ◌+◌, ◌/◌, ◌%◌, ℕ, List, [], ◌∷◌, length}
use Rattle.std.specs.Prelude.{take, Option}
use Rattle.std.specs.FinMap as map
use Rattle.std.specs.List.{after_first, before_first, flat_map}
use Rattle.std.specs.Net.Addr.{ipv4_octets, ipv6_octets}
use Rattle.std.specs.Net.Grammar.{IsIpText, IsNumber}
use Rattle.std.specs.Option.{option_map}
use Rattle.std.specs.declared.net.ip_addr.IpAddr.{IpAddr}
use Rattle.std.specs.declared.net.ip_addr.IpAddr.TheVariants as Ip
use Rattle.patricia_tree.specs.Keys.{key_cmp}
use Rattle.patricia_tree.specs.Prefixes.{longest}
use Rattle.prefixes_core.specs.declared.networks.Network.{Network}
use Rattle.prefixes_core.specs.declared.networks.NetworkError.{NetworkError}
use Rattle.prefixes_core.specs.declared.networks.NetworkError.TheVariants as Faults

-- the eight bits of a byte, the highest first
abbrev pub bits_of : ℕ → List ℕ
bits_of b =
    b / 128 % 2 ∷ b / 64 % 2 ∷ b / 32 % 2 ∷ b / 16 % 2 ∷ b / 8 % 2 ∷ b / 4 % 2 ∷ b / 2 % 2 ∷ b % 2
    ∷ []

-- the key of an address: its version, so that no IPv4 network has an IPv6 address, and its bits
abbrev pub address_key : IpAddr → List ℕ
address_key (Ip.V4 a) = 4 ∷ flat_map bits_of (ipv4_octets a)
address_key (Ip.V6 a) = 6 ∷ flat_map bits_of (ipv6_octets a)

-- how many bits an address has
abbrev pub width : IpAddr → ℕ
width (Ip.V4 a) = 32
width (Ip.V6 a) = 128

-- the key of the network that fixes so many bits of an address: 10.1.2.3 and 10.0.0.0 have the same
-- first 8 bits, so that `10.1.2.3/8` is the network `10.0.0.0/8`
abbrev pub network_key : IpAddr → ℕ → List ℕ
network_key address count = take (1 + count) (address_key address)

-- the address in the name of a network: all before its first slash (byte 47)
abbrev pub address_part : List ℕ → List ℕ
address_part name = before_first (λ b. b == 47) name

-- its prefix length: all after that slash, or no byte if there is none
abbrev pub length_part : List ℕ → List ℕ
length_part name = after_first (λ b. b == 47) name

-- one to three decimal digits that write a number up to `most`
abbrev pub IsLengthText : ℕ → List ℕ → ℕ → Type 0
IsLengthText most text count = IsNumber 10 text count × (length text ≤ 3) × (count ≤ most)

-- the number of bits of an address that a name fixes: its prefix length, or all if it has no slash
abbrev pub FixesBits : List ℕ → IpAddr → ℕ → Type 0
FixesBits name address count =
    ((address_part name ≡ name) × (count ≡ width address))
    ⊎ ((address_part name ≢ name) × IsLengthText (width address) (length_part name) count)

-- the name writes the network with this key
pub record IsNetworkText (name key : List ℕ) : Type 0 where
  pub address : IpAddr
  pub writes : IsIpText (address_part name) address
  pub count : ℕ
  pub fixes : FixesBits name address count
  pub is : key ≡ network_key address count

-- the name writes a network
abbrev pub IsNetwork : List ℕ → Type 0
IsNetwork name = (key : List ℕ) × IsNetworkText name key

-- the meaning of each error: the name writes no address, or one without a valid prefix length
abbrev pub IsNetworkFault : List ℕ → NetworkError → Type 0
IsNetworkFault name Faults.NoAddress =
    (address : IpAddr) → IsIpText (address_part name) address → ⊥
IsNetworkFault name Faults.NoLength =
    ((address : IpAddr) × IsIpText (address_part name) address) × (IsNetwork name → ⊥)

-- a table of networks, by their keys
abbrev pub Networks : Type 0
Networks = map.FinMap key_cmp Network

-- a table before and after a network is added: of two names with one key the later stays
abbrev pub AddsNetwork : Networks → List ℕ → List ℕ → Networks → Type 0
AddsNetwork old name target new =
    (key : List ℕ) × IsNetworkText name key
    × (new ≡ map.insert old key (record { text = name; target = target }))

-- the network of an address: the longest of the table that has its first bits
abbrev pub network_of : Networks → IpAddr → Option Network
network_of table address =
    option_map (λ e. e.1) (longest (address_key address) (map.entries table))
