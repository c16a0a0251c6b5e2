use Rattle.std.proofs.Common.{sym, ◌∙◌}
use Rattle.pw_info.proofs.NameLemmas.{as_text}
use Rattle.pw_info.proofs.word_names.read_name.Goals as goal

pub returns : goal.returns
returns c = rw c.ok.ensures.value (as_text c.args.word.now c.from_utf8.result _ (sym c.is_name.ensures ∙ c.if-not-is_name.false) c.from_utf8.ensures.cases)
