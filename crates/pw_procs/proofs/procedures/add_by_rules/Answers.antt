use Rattle.std.proofs.Common.{ap, ◌∙◌}
use Rattle.pw_procs.specs.Signature.{input_slots_of, output_slot_of}
use Rattle.pw_procs.proofs.procedures.add_by_rules.Goals as goal

pub returns-clause-ok : goal.returns-clause-ok
returns-clause-ok g c = record {
  added = c.new-2.result;
  list = c.in_ok-push.ensures.items;
  name_is = c.new-2.ensures.name ∙ c.in_ok-name.ensures.ok;
  inputs_are = ap input_slots_of c.new-2.ensures.signature ∙ c.in-Some.ensures.inputs;
  output_is = ap output_slot_of c.new-2.ensures.signature ∙ c.in-Some.ensures.output;
  meaning_is = c.new-2.ensures.meaning;
}
