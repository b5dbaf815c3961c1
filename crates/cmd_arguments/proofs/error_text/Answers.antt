-- `cmd_arguments::error_text` meets its contract.
-- Assumes nothing.
use native.Mathlib.Omega.{arith}
use Rattle.cmd_text.proofs.Lines.{refusal_fits}
use Rattle.cmd_arguments.proofs.Streams.{error_none, error_line}
use Rattle.cmd_arguments.proofs.error_text.Goals as goal

pub returns-then-answer-eq0 : goal.returns-then-answer-eq0
returns-then-answer-eq0 c = error_none c.args.answer c.args.line.now c.if-answer-eq0.true

pub put_refusal-requires : goal.put_refusal-requires
put_refusal-requires c = omega (arith, refusal_fits c.args.answer.number c.args.answer.place (omega arith) (omega arith), c.well_formed)

pub returns : goal.returns
returns c = error_line c.args.answer c.if-answer-eq0.false c.put_refusal.ensures
