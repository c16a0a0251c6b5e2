use Rattle.std.proofs.Common.{◌∙◌}
use Rattle.pw_procs.proofs.SlotKinds.{with_output, fits_equal}
use Rattle.pw_procs.proofs.signature.Signature.accepts.Goals as goal

pub returns : goal.returns
returns c =
    let slots = with_output _ _ _ c.args.self.now.output (c.copy_from_slice.ensures.after ∙ c.inputs.ensures) c.copy_from_slice.ensures.len c.args.self.now.shape.most in
    fits_equal _ _ _ _ slots c.kinds_fit.ensures
