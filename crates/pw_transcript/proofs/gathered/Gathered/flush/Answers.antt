use Rattle.std.proofs.Common.{[]}
use Rattle.pw_transcript.specs.inside.Gathering.{Gathers-joins}
use Rattle.pw_transcript.proofs.GatheringFacts.{Gathers-front, Gathers-kept}
use Rattle.pw_transcript.proofs.gathered.Gathered.flush.Goals as goal

pub loop-self-preserved : goal.loop-self-preserved
loop-self-preserved g c =
    let inv = c.loop-self.invariant in
    let passes = g.O.Output.passes in
    record {
      same = inv.same;
      passed = Gathers-joins passes g.met.O.Output.joins _ _ _ c.args.self.now.held c.loop-self.self.held c.release.new.self [] [] inv.passed
          (Gathers-front passes _ _ c.loop-self.self.held c.release.new.self c.bytes-in-loop-self.result.now c.in-Ok.count c.bytes-in-loop-self.ensures c.release.ensures c.in-Ok.ensures.passed.2);
      works = c.in-Ok.ensures.failed;
    }

pub returns-in-Err-clause-passed : goal.returns-in-Err-clause-passed
returns-in-Err-clause-passed g c =
    let inv = c.loop-self.invariant in
    let passes = g.O.Output.passes in (
      inv.same,
      Gathers-joins passes g.met.O.Output.joins _ _ _ c.args.self.now.held c.loop-self.self.held c.loop-self.self.held [] [] inv.passed
          (Gathers-kept passes _ _ c.loop-self.self.held c.in-Err.ensures.passed),
    )
