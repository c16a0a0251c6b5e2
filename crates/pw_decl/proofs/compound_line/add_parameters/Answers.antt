use Rattle.std.proofs.Common.{[], refl, sym, ap, ◌∙◌}
use Rattle.std.proofs.lemmas.List.{append-nil}
use Rattle.std.specs.String.{string_bytes}
use Rattle.pw_decl.specs.Declaration.{OpenCompound, parameter_kinds, parameter_names}
use Rattle.pw_decl.specs.inside.Fields.{declared}
use Rattle.pw_decl.specs.inside.Held.{size_of, steps_of}
use Rattle.pw_decl.proofs.CompoundLemmas.{begun_where}
use Rattle.pw_decl.proofs.MemberLemmas.{is_new}
use Rattle.pw_decl.proofs.ParameterLemmas.{both_more, chosen_more, names_more}
use Rattle.pw_decl.proofs.compound_line.add_parameters.Goals as goal

pub loop-name-init : goal.loop-name-init
loop-name-init g c =
    let begun = c.requires.begun in
    let parameters = ap (λ (o : OpenCompound). o.compound.parameters) begun in
    record {
      named = c.requires.named;
      names = rw (ap (λ (o : OpenCompound). o.names) begun) refl;
      known = c.requires.known;
      chosen = λ rest others. rw parameters others;
      kinds = c.requires.kinds ∙ sym parameters;
      name = refl;
      steps = ap (λ (o : OpenCompound). o.compound.steps) begun;
      size = c.requires.size;
    }

pub add_parameter-requires : goal.add_parameter-requires
add_parameter-requires g c =
    let names = rw c.in-Some.ensures.some.1 at c.loop-name.invariant.names in
    record {
      fresh = is_new c.loop-name.opened.names c.in-Some.name.now (parameter_names c.next_parameter.new.parameters) 0 (rw names at c.requires.distinct);
    }

pub loop-name-preserved : goal.loop-name-preserved
loop-name-preserved g c =
    let old = c.loop-name.opened in
    let new = c.add_parameter.new.opened in
    let rest = c.next_parameter.new.parameters in
    let next = c.in-Some.ensures.some in
    let added = c.in_ok-add_parameter.ensures in
    let names = rw next.1 at c.loop-name.invariant.names in
    let chosen = rw next.1 at c.loop-name.invariant.chosen in
    record {
      named = c.next_parameter.ensures.named;
      names = names_more (parameter_names c.args.parameters) old.names new.names (parameter_names rest) c.in-Some.name.now names added.names;
      known = c.next_parameter.ensures.known;
      chosen = chosen_more (declared c.args.declaration.now) next.0 (parameter_kinds rest) (parameter_kinds c.args.parameters) c.in-Some.kind
          old.compound.parameters.items new.compound.parameters.items next.2 added.parameters chosen;
      kinds = both_more old.kinds.items old.compound.parameters.items new.kinds.items new.compound.parameters.items c.in-Some.kind
          c.loop-name.invariant.kinds added.kinds added.parameters;
      name = ap string_bytes added.name ∙ c.loop-name.invariant.name;
      steps = ap (λ steps. steps_of steps.items) added.steps ∙ c.loop-name.invariant.steps;
      size = ap size_of added.size ∙ c.loop-name.invariant.size;
    }

pub returns : goal.returns
returns g c =
    let opened = c.loop-name.opened in
    let none = c.in_default.ensures.none in
    let names = rw none at c.loop-name.invariant.names in
    let chosen = rw none at c.loop-name.invariant.chosen in
    record {
      begun = record {
        is = begun_where opened (string_bytes c.args.opened.now.name) (parameter_names c.args.parameters) c.loop-name.invariant.name
            (sym (names ∙ append-nil opened.names)) c.loop-name.invariant.steps;
        named = rw (append-nil opened.compound.parameters.items) at (chosen [] tt);
        kinds = c.loop-name.invariant.kinds;
        size = c.loop-name.invariant.size;
      };
    }
