use Rattle.std.proofs.Common.{ap, ◌∙◌}
use Rattle.pw_info.specs.Words.{is_nil}
use Rattle.pw_info.proofs.WordLemmas.{no_words}
use Rattle.pw_info.proofs.words.Words.is_empty.Goals as goal

pub returns : goal.returns
returns c = c.is_empty.ensures ∙ no_words c.self.inside.rest.now c.after_blanks.result.now c.after_blanks.ensures ∙ ap is_nil c.self.view_is
