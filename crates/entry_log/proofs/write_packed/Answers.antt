-- The words of an entry, one after the other.
-- Assumes nothing.
use native.Mathlib.Omega.{arith}
use Prim.Native.Nat.{◌*◌, ◌/◌, ◌%◌}
use lib.ListN.{length-set}
use Rattle.network.specs.Log.{entry_words}
use Rattle.entry_log.proofs.Written.{entry-written}
use Rattle.entry_log.proofs.write_packed.Goals as goal

pub bounds-log-at-2 : goal.bounds-log-at-2
bounds-log-at-2 c = simp length-set (omega arith)

pub bounds-log-at-3 : goal.bounds-log-at-3
bounds-log-at-3 c = simp length-set (omega arith)

pub bounds-log-at-4 : goal.bounds-log-at-4
bounds-log-at-4 c = simp length-set (omega arith)

pub returns : goal.returns
returns c = let a = c.args in
    let x = a.x in
    entry-written a.log.now (entry_words * a.e) (x % 65536) (x / 65536 % 65536) (x / 4294967296 % 65536) (x / 281474976710656)
    (omega arith)
