use Rattle.std.proofs.Common.{List, map, refl, sym, ap, subst, ◌∙◌}
use Rattle.std.proofs.lemmas.Option.{slice_get_within}
use Rattle.pw_info.specs.declared.info.Info.{Info}
use Rattle.pw_info.specs.Information.{kind_of}
use Rattle.pw_procs.specs.Procedure.{procedure_of, value_by}
use Rattle.pw_procs.specs.Registry.{procedures_in}
use Rattle.pw_procs.specs.Signature.{FitSignature}
use Rattle.pw_network.specs.inside.Held.{attachment}
use Rattle.pw_settle.proofs.PlacedInstances.{accepted, fits_given, given_is_said}
use Rattle.pw_settle.proofs.propagating.procedure_value.Goals as goal

pub get-requires : goal.get-requires
get-requires g c =
    let is = accepted (procedures_in c.args.registry.now) (map kind_of c.args.known.now) (attachment c.args.instance.now).instance c.requires.placed in
    slice_get_within (procedures_in c.args.registry.now) c.args.instance.now.procedure is.0 is.1

pub call-requires : goal.call-requires
call-requires g c =
    let fits = fits_given (procedures_in c.args.registry.now) c.args.known.now (attachment c.args.instance.now).instance c.requires.placed (procedure_of c.get.result.now) c.get.ensures in
    subst (λ (l : List Info). FitSignature c.get.result.now.signature l) (sym {A = List Info} c.requires.given) fits.0

pub returns : goal.returns
returns g c =
    let procedures = procedures_in c.args.registry.now in
    let instance = (attachment c.args.instance.now).instance in
    let procedure = procedure_of c.get.result.now in
    let is = c.call.ensures ∙ ap (value_by procedure) c.requires.given in
    record {
      counted = refl;
      says = given_is_said procedures c.args.known.now instance c.requires.placed procedure c.get.ensures c.call.result is;
      kind = ap kind_of is ∙ (fits_given procedures c.args.known.now instance c.requires.placed procedure c.get.ensures).1;
    }
