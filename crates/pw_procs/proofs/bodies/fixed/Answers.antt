use Rattle.std.proofs.Common.{◌≡◌, length, arith, ap, ◌∙◌}
use Rattle.pw_info.specs.declared.kind.Kind.TheVariants as kinds
use Rattle.pw_procs.specs.declared.signature.Slot.TheVariants.{Fixed}
use Rattle.pw_procs.specs.Meaning.{fixed_of}
use Rattle.pw_procs.proofs.FittingInputs.{one_fits}
use Rattle.pw_procs.proofs.bodies.fixed.Goals as goal

pub interval_at-requires : goal.interval_at-requires
interval_at-requires c =
    let fits = one_fits (Fixed kinds.Interval) c.args.inputs.now c.requires in
    let long : length c.args.inputs.now ≡ 1 = fits.0 in
    record { here = omega arith; kind = fits.1 }

pub returns : goal.returns
returns c = c.of_exact.ensures.exact ∙ c.fixed_number.ensures ∙ ap fixed_of c.interval_at.ensures
