use Rattle.pw_procs.proofs.signature.kinds_fit.Goals as goal

pub returns : goal.returns
returns c = (λ t. (c.same_kind.result, c.are_kinds_in.ensures.0 t), λ (same, e). c.are_kinds_in.ensures.1 (c.same_kind.ensures same e))
