-- `cmd_draw::bytes_for` meets its contract.
-- Assumes nothing.
use native.Mathlib.Omega.{arith}
use Rattle.cmd_draw.proofs.Drawn.{wanted, wanted_none}
use borrow.Author.Rules.{rules}
use Rattle.cmd_draw.proofs.bytes_for.Goals as goal

pub returns-then-n-le-MOST_PLACES : goal.returns-then-n-le-MOST_PLACES
returns-then-n-le-MOST_PLACES c = (omega (arith, wanted c.args.n (omega (arith, c.if-n-le-MOST_PLACES.true))), search rules)

pub returns-else-n-le-MOST_PLACES : goal.returns-else-n-le-MOST_PLACES
returns-else-n-le-MOST_PLACES c = (wanted_none c.args.n c.if-n-le-MOST_PLACES.false, search rules)
