use lib.ListN.{length}
use Rattle.bits.proofs.Bytes.{flag_down}
use borrow.Author.Rules.{rules}
use Rattle.bits.proofs.first_bad_bit.Goals as goal

-- src/lib.rt:42:9
pub returns-then-some_bad-eq0 : goal.returns-then-some_bad-eq0
returns-then-some_bad-eq0 c = flag_down c.args.bits.now (length c.args.bits.now) c.some_bad.ensures (search rules)
