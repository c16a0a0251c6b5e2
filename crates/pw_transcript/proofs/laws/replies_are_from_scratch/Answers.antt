use Rattle.pw_transcript.proofs.IsolationLemmas.{replies_are}
use Rattle.pw_transcript.proofs.laws.replies_are_from_scratch.Goals as goal

pub returns : goal.returns
returns c = replies_are
