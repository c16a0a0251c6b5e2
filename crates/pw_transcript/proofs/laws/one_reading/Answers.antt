use Rattle.pw_transcript.proofs.ReadingLemmas as readings
use Rattle.pw_transcript.proofs.laws.one_reading.Goals as goal

pub returns : goal.returns
returns c = readings.one_reading
