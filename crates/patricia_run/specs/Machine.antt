-- The machine of commands over two finite maps.
use Rattle.std.specs.Prelude.{◌≡◌, ◌≢◌, ℕ, List, [], ◌∷◌, length, Option, None, Some}
use Rattle.std.specs.Option.{option_map_or}
use Rattle.std.specs.FinMap as map
use Rattle.patricia_tree.specs.Bulk.{by_bytes}
use Rattle.patricia_tree.specs.Keys.{key_cmp}
use Rattle.patricia_tree.specs.Points.{Joins}
use Rattle.patricia_tree.specs.Prefixes.{under, outside, along, longest, IsReach}
use Rattle.patricia_tree.specs.Writings.{Canon, TooDeep}
use Rattle.patricia_run.specs.declared.command.Command.{Command}
use Rattle.patricia_run.specs.declared.command.Command.TheVariants as Commands
use Rattle.patricia_run.specs.declared.command.Reply.{Reply}
use Rattle.patricia_run.specs.declared.command.Reply.TheVariants as Replies

-- what the machine holds: the map that commands work on, and one that is kept aside
pub record State (V : Type 0) : Type 0 where
  pub main : map.FinMap key_cmp V
  pub aside : map.FinMap key_cmp V

-- what every machine holds at first
abbrev pub empty_state : {V : Type 0} → State V
empty_state = record { main = map.empty; aside = map.empty }

-- a command with the bytes of its key in the key's place
abbrev pub with_key : {Q V : Type 0} → (Q → List ℕ) → Command Q V → Command (List ℕ) V
with_key key_of (Commands.Insert key value) = Commands.Insert (key_of key) value
with_key key_of (Commands.Get key) = Commands.Get (key_of key)
with_key key_of (Commands.Remove key) = Commands.Remove (key_of key)
with_key key_of Commands.Len = Commands.Len
with_key key_of Commands.List = Commands.List
with_key key_of (Commands.Under prefix) = Commands.Under (key_of prefix)
with_key key_of (Commands.Along key) = Commands.Along (key_of key)
with_key key_of (Commands.Longest key) = Commands.Longest (key_of key)
with_key key_of (Commands.Reach key) = Commands.Reach (key_of key)
with_key key_of (Commands.Split prefix) = Commands.Split (key_of prefix)
with_key key_of Commands.Swap = Commands.Swap
with_key key_of Commands.Copy = Commands.Copy
with_key key_of Commands.Clear = Commands.Clear
with_key key_of Commands.Wire = Commands.Wire
with_key key_of Commands.Reload = Commands.Reload
with_key key_of Commands.Wide = Commands.Wide
with_key key_of Commands.ReloadWide = Commands.ReloadWide

-- keys are made of such items, and key_of gives the bytes of an entry's key
module _ {K V : Type 0} (item : List ℕ → Type 0) (key_of : K → List ℕ) where
  -- a command may run out of memory: an insert only at a new key that is not empty, a remove only
  -- where labels join, and what lists, splits or copies entries only where there are some
  abbrev pub MayRefuse : map.FinMap key_cmp V → Command (List ℕ) V → Type 0
  MayRefuse main (Commands.Insert key value) = (key ≢ []) × (map.get main key ≡ None)
  MayRefuse main (Commands.Remove key) = Joins item (map.keys main) key
  MayRefuse main Commands.List = map.entries main ≢ []
  MayRefuse main (Commands.Under prefix) = under prefix (map.entries main) ≢ []
  MayRefuse main (Commands.Along key) = along key (map.entries main) ≢ []
  MayRefuse main (Commands.Split prefix) = (prefix ≢ []) × (under prefix (map.entries main) ≢ [])
  MayRefuse main Commands.Copy = map.len main ≢ 0
  MayRefuse main Commands.Wire = Unit {0}
  MayRefuse main Commands.Reload = Unit {0}
  MayRefuse main Commands.Wide = Unit {0}
  MayRefuse main Commands.ReloadWide = Unit {0}
  MayRefuse main _ = ⊥

  -- a command encodes the keys, and they lie too deep for the bytes of its levels
  abbrev pub IsTooDeep : map.FinMap key_cmp V → Command (List ℕ) V → Type 0
  IsTooDeep main Commands.Wire = TooDeep item 2 (map.keys main)
  IsTooDeep main Commands.Reload = TooDeep item 2 (map.keys main)
  IsTooDeep main Commands.Wide = TooDeep item 4 (map.keys main)
  IsTooDeep main Commands.ReloadWide = TooDeep item 4 (map.keys main)
  IsTooDeep main _ = ⊥

  -- the value that was found, or none
  abbrev pub reply_of : Option V → Reply K V
  reply_of None = Replies.None
  reply_of (Some value) = Replies.Some value

  -- the reply has these entries
  abbrev pub HasEntries : List (List ℕ × V) → Reply K V → Type 0
  HasEntries entries (Replies.Rows listed) = by_bytes key_of listed.items ≡ entries
  HasEntries entries _ = ⊥

  -- the reply has the encoding of the keys, its levels in width bytes, and the values in key order
  abbrev pub HasTree : ℕ → map.FinMap key_cmp V → Reply K V → Type 0
  HasTree width main (Replies.Wire bytes values) =
      Canon item width bytes.items (map.keys main) × (values.items ≡ map.values main)
  HasTree width main _ = ⊥

  -- the reply to a command that is not refused
  abbrev pub IsReply : map.FinMap key_cmp V → Command (List ℕ) V → Reply K V → Type 0
  IsReply main (Commands.Insert key value) reply = reply ≡ reply_of (map.get main key)
  IsReply main (Commands.Get key) reply = reply ≡ reply_of (map.get main key)
  IsReply main (Commands.Remove key) reply = reply ≡ reply_of (map.get main key)
  IsReply main Commands.Len reply = reply ≡ Replies.Count (map.len main)
  IsReply main Commands.List reply = HasEntries (map.entries main) reply
  IsReply main (Commands.Under prefix) reply = HasEntries (under prefix (map.entries main)) reply
  IsReply main (Commands.Along key) reply = HasEntries (along key (map.entries main)) reply
  IsReply main (Commands.Longest key) reply =
      reply ≡ option_map_or (λ entry. Replies.Longest (length entry.0) entry.1)
      (longest key (map.entries main)) Replies.None
  IsReply main (Commands.Reach key) reply =
      (n : ℕ) × IsReach item (map.keys main) key n × (reply ≡ Replies.Count n)
  IsReply main Commands.Wire reply = HasTree 2 main reply
  IsReply main Commands.Reload reply = ¬ (IsTooDeep main Commands.Reload) × (reply ≡ Replies.Done)
  IsReply main Commands.Wide reply = HasTree 4 main reply
  IsReply main Commands.ReloadWide reply =
      ¬ (IsTooDeep main Commands.ReloadWide) × (reply ≡ Replies.Done)
  IsReply main _ reply = reply ≡ Replies.Done

  -- the state after a command that is not refused; a reload makes main anew of its encoding, which
  -- changes nothing
  abbrev pub Leaves : State V → Command (List ℕ) V → State V → Type 0
  Leaves old (Commands.Insert key value) new =
      new ≡ record old { main = map.insert old.main key value }
  Leaves old (Commands.Remove key) new = new ≡ record old { main = map.remove old.main key }
  Leaves old (Commands.Split prefix) new =
      (map.entries new.main ≡ outside prefix (map.entries old.main))
      × (map.entries new.aside ≡ under prefix (map.entries old.main))
  Leaves old Commands.Swap new = new ≡ record { main = old.aside; aside = old.main }
  Leaves old Commands.Copy new = new ≡ record old { aside = old.main }
  Leaves old Commands.Clear new = new ≡ record old { main = map.empty }
  Leaves old _ new = new ≡ old

  -- the machine in the state old may reply so to the command, and then be in the state new;
  -- a refusal, for memory or for depth, leaves the state as it was
  abbrev pub Step : State V → Command (List ℕ) V → Reply K V → State V → Type 0
  Step old command Replies.NoMemory new = MayRefuse old.main command × (new ≡ old)
  Step old command Replies.TooDeep new = IsTooDeep old.main command × (new ≡ old)
  Step old command reply new = IsReply old.main command reply × Leaves old command new

  -- the machine may reply so to the commands in turn, with one reply for each
  abbrev pub Run : State V → List (Command (List ℕ) V) → List (Reply K V) → State V → Type 0
  Run old [] [] new = new ≡ old
  Run old (command ∷ commands) (reply ∷ replies) new =
      (between : State V) × Step old command reply between × Run between commands replies new
  Run old _ _ new = ⊥
