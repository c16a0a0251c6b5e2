use Rattle.std.proofs.Common.{◌≡◌, refl}
use Rattle.std.proofs.KnownBytes.{Consumes-whole}
use Rattle.pw_transcript.proofs.laws.whole_text_is_taken.Goals as goal

pub returns : goal.returns
returns g c = λ old new bytes taken none. Consumes-whole _ _ bytes (λ text. bytes ≡ text) taken none refl
