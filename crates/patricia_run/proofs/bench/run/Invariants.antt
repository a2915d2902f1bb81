use Rattle.std.proofs.Common.{◌≡◌, ◌≤◌, length, take, vec_len, map}
use Rattle.std.specs.Vec.{vec_capacity}
use Rattle.patricia_run.specs.Machine.{Run, with_key}
use Rattle.patricia_run.proofs.bench.run.Given as goal

-- the commands so far have run, and there is room for each reply
abbrev pub invariant-loop-command : goal.invariant-loop-command
invariant-loop-command g l = record {
  run :
      Run g.K.Bytes.item g.K.Bytes.key l.fn.bench (map (with_key g.Q.BorrowedBytes.key) (take l.command-index l.commands)) l.replies.items l.bench;
  count : vec_len l.replies ≡ l.command-index;
  room : length l.commands ≤ vec_capacity l.replies;
}
