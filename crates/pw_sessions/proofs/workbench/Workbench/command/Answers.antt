use Rattle.std.proofs.Common.{◌+◌, ap, ◌∙◌}
use Rattle.pw_sessions.specs.inside.Fields.{state}
use Rattle.pw_sessions.specs.Reply.{and_blank_lines}
use Rattle.pw_sessions.specs.Workbench.{Workbench}
use Rattle.pw_sessions.proofs.AskedCells.{well_left}
use Rattle.pw_sessions.proofs.BlankLines.{can_carry_out, count_blanks, left_blanks}
use Rattle.pw_sessions.proofs.Uncounted.{can_uncounted, counts_from_uncounted, fresh_from_uncounted, left_uncounted, unchanged_from_uncounted, uncounted}
use Rattle.pw_sessions.proofs.workbench.Workbench.command.Goals as goal

pub carry_out-requires-clause-can : goal.carry_out-requires-clause-can
carry_out-requires-clause-can g c =
    can_carry_out (uncounted (state c.args.self.now)) c.args.line c.args.command.now
    (can_uncounted (state c.args.self.now) c.args.self.now.network.well c.args.line c.args.command.now c.requires)

pub returns-clause-carried : goal.returns-clause-carried
returns-clause-carried g c = λ d before blanks left at named.
    let bench : Workbench = state c.args.self.now in
    let well = well_left d before bench c.args.self.now.network.well left in
    c.carry_out.ensures.carried d (and_blank_lines before blanks)
    (left_blanks d before blanks (uncounted bench) well (left_uncounted d before bench c.args.self.now.network.well left))
    (ap (λ n. n + 1) (count_blanks before blanks) ∙ at) named

pub returns-clause-fresh : goal.returns-clause-fresh
returns-clause-fresh g c =
    fresh_from_uncounted (state c.args.self.now) c.args.self.now.network.well _ _ _ c.carry_out.ensures.fresh

pub returns-clause-calls : goal.returns-clause-calls
returns-clause-calls g c =
    counts_from_uncounted (state c.args.self.now) c.args.self.now.network.well _ _ _ c.carry_out.ensures.calls

pub returns-clause-refused : goal.returns-clause-refused
returns-clause-refused g c = λ refused.
    unchanged_from_uncounted (state c.args.self.now) c.args.self.now.network.well _ (c.carry_out.ensures.refused refused)
