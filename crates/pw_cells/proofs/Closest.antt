-- A merge grows with its parts.
use Rattle.std.proofs.Common.{◌≡◌, true, ◌&&◌, subst}
use Rattle.pw_kinds.proofs.Order.{both_true, true_both}
use Rattle.pw_info.specs.declared.kind.Kind.{Kind}
use Rattle.pw_info.specs.declared.info.Info.{Info}
use Rattle.pw_info.specs.Information.{kind_of, allows, closest, meet, Implies}
use Rattle.pw_info.proofs.Informations.{closest_mono}

-- what is merged may be of another kind: it is cut to the first's
pub meet_mono : (i j s t : Info) → kind_of i ≡ kind_of j → Implies i j → Implies s t → Implies (meet i s) (meet j t)
meet_mono i j s t k first second =
    subst (λ (x : Kind). Implies (meet i s) (closest x (λ v. allows j v && allows t v))) k
    (closest_mono (kind_of i) (λ v. allows i v && allows s v) (λ v. allows j v && allows t v) (λ v r e.
    let both : (allows i v ≡ true) × (allows s v ≡ true) = true_both (allows i v) (allows s v) e in
    both_true _ _ (first v both.0) (second v both.1)))
