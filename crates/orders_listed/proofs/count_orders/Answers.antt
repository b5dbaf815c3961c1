-- `orders_listed::count_orders` meets its contract: the table is held against the factorials by one test, which antt computes.
-- Assumes nothing.
use mathlib.Core.Path.{refl}
use borrow.Author.Rules.{rules}
use Rattle.answers.specs.Questions.{first_bad_from}
use Rattle.orders_listed.specs.Ranks.{factorial}
use Rattle.orders_listed.proofs.Digits.{orders_stand}
use Rattle.orders_listed.proofs.count_orders.Goals as goal

pub returns : goal.returns
unfolding factorial first_bad_from
returns c = orders_stand c.read_table.ensures refl (search rules)
