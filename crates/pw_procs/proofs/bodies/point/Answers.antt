use Rattle.std.proofs.Common.{◌≡◌, length, arith, ap, ◌∙◌}
use Rattle.pw_info.specs.declared.kind.Kind.TheVariants as kinds
use Rattle.pw_procs.specs.declared.signature.Slot.TheVariants.{Fixed}
use Rattle.pw_procs.specs.Meaning.{point_of}
use Rattle.pw_procs.proofs.FittingInputs.{one_fits}
use Rattle.pw_procs.proofs.bodies.point.Goals as goal

pub exact_at-requires : goal.exact_at-requires
exact_at-requires c =
    let fits = one_fits (Fixed kinds.Exact) c.args.inputs.now c.requires in
    let long : length c.args.inputs.now ≡ 1 = fits.0 in
    record { here = omega arith; kind = fits.1 }

pub returns : goal.returns
returns c = c.of_interval.ensures.exact ∙ c.point_interval.ensures ∙ ap point_of c.exact_at.ensures
