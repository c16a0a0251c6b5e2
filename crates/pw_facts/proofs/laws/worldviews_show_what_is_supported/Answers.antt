use Rattle.pw_facts.proofs.Shown.{kind-shows, larger_shows, says_shown}
use Rattle.pw_facts.proofs.laws.worldviews_show_what_is_supported.Goals as goal

pub returns : goal.returns
returns c = record { kind = kind-shows; larger = λ f v w. larger_shows v w f; most = says_shown }
