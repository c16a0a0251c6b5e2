use Rattle.std.proofs.Common.{◌≡◌, ◌≤◌, true, false, length, inl, inr, refl, ap, ◌∙◌, arith}
use Rattle.std.specs.List.{IsDistinct}
use Rattle.std.specs.Str.{bytes_eq}
use Rattle.std.proofs.lemmas.Bool.{false≢true}
use Rattle.pw_procs.specs.Registering.{place_of_name}
use Rattle.pw_decl.specs.Declaration.{kind_names}
use Rattle.pw_decl.specs.Versions.{most_members_under}
use Rattle.pw_decl.specs.inside.Fields.{declared}
use Rattle.pw_decl.proofs.ParameterLemmas.{none_where}
use Rattle.pw_decl.proofs.SetFaults.{kind_found, faultless_set, set_duplicate, set_wrong, set_limit}
use Rattle.pw_decl.proofs.set_line.set_fault.Goals.{then-has_kind-via-then-has_kind, then-has_kind-via-else-has_kind+then-not-are_distinct}
use Rattle.pw_decl.proofs.set_line.set_fault.Goals.{then-sets-ge-MOST_SETS-via-then-sets-ge-MOST_SETS, then-sets-ge-MOST_SETS-via-else-sets-ge-MOST_SETS+then-size-most_members}
use Rattle.pw_decl.proofs.set_line.set_fault.Goals as goal

pub returns-then-has_kind-clause-some : goal.returns-then-has_kind-clause-some
returns-then-has_kind-clause-some g c =
    let d = declared c.args.declaration.now in
    elim c.then-has_kind.branch [
      | then-has_kind-via-then-has_kind w ↦ set_duplicate d c.args.name.now c.args.members (inl (kind_found d c.as_bytes.result.now c.args.name.now c.has_kind.result true c.has_kind.ensures c.as_bytes.ensures.value w.if-has_kind.true))
      | then-has_kind-via-else-has_kind+then-not-are_distinct w ↦
          set_duplicate d c.args.name.now c.args.members (inr (λ differ. false≢true ((rw w.again.ensures at w.if-not-are_distinct.ensures).1 differ)))
    ]

pub returns-then-size-lt-FEWEST_MEMBERS-clause-some : goal.returns-then-size-lt-FEWEST_MEMBERS-clause-some
returns-then-size-lt-FEWEST_MEMBERS-clause-some g c =
    let d = declared c.args.declaration.now in
    let differ : IsDistinct bytes_eq c.args.members = (rw c.again.ensures at c.if-not-are_distinct.ensures).0 refl in
    set_wrong d c.args.name.now c.args.members (kind_found d c.as_bytes.result.now c.args.name.now c.has_kind.result false c.has_kind.ensures c.as_bytes.ensures.value c.if-has_kind.false) differ
    (omega (arith, c.count-size.ensures, ap length c.again-2.ensures, c.if-size-lt-FEWEST_MEMBERS.true))

pub returns-then-sets-ge-MOST_SETS-clause-some : goal.returns-then-sets-ge-MOST_SETS-clause-some
returns-then-sets-ge-MOST_SETS-clause-some g c =
    let d = declared c.args.declaration.now in
    let members = c.args.members in
    let fresh = kind_found d c.as_bytes.result.now c.args.name.now c.has_kind.result false c.has_kind.ensures c.as_bytes.ensures.value c.if-has_kind.false in
    let differ : IsDistinct bytes_eq members = (rw c.again.ensures at c.if-not-are_distinct.ensures).0 refl in
    let count = ap length c.again-2.ensures in
    let some : 2 ≤ length members = omega (arith, c.count-size.ensures, count, c.if-size-lt-FEWEST_MEMBERS.false) in
    elim c.then-sets-ge-MOST_SETS.branch [
      | then-sets-ge-MOST_SETS-via-then-sets-ge-MOST_SETS w ↦
          set_limit d c.args.name.now members fresh differ some (inl (omega (arith, c.sets.ensures.count, w.if-sets-ge-MOST_SETS.true)))
      | then-sets-ge-MOST_SETS-via-else-sets-ge-MOST_SETS+then-size-most_members w ↦
          let most : w.most_members.result ≡ most_members_under d.version = w.most_members.ensures.version ∙ ap most_members_under w.version.ensures in
          set_limit d c.args.name.now members fresh differ some (inr (omega (arith, c.count-size.ensures, count, most, w.if-size-most_members.true)))
    ]

pub returns-clause-fresh : goal.returns-clause-fresh
returns-clause-fresh g c =
    let d = declared c.args.declaration.now in
    none_where (place_of_name (kind_names d) c.args.name.now) _ (kind_found d c.as_bytes.result.now c.args.name.now c.has_kind.result false c.has_kind.ensures c.as_bytes.ensures.value c.if-has_kind.false) refl

pub returns-clause-distinct : goal.returns-clause-distinct
returns-clause-distinct g c = (rw c.again.ensures at c.if-not-are_distinct.ensures).0 refl

pub returns-clause-room : goal.returns-clause-room
returns-clause-room g c = omega (arith, c.sets.ensures.count, c.if-sets-ge-MOST_SETS.false)

pub returns-clause-size : goal.returns-clause-size
returns-clause-size g c =
    let count = ap length c.again-2.ensures in (
      omega (arith, c.count-size.ensures, count, c.if-size-lt-FEWEST_MEMBERS.false),
      omega (arith, c.count-size.ensures, count, c.most_members.ensures.latest, c.if-size-most_members.false),
    )

pub returns-clause-none : goal.returns-clause-none
returns-clause-none g c =
    let d = declared c.args.declaration.now in
    let members = c.args.members in
    let fresh = kind_found d c.as_bytes.result.now c.args.name.now c.has_kind.result false c.has_kind.ensures c.as_bytes.ensures.value c.if-has_kind.false in
    let count = ap length c.again-2.ensures in
    let most : c.most_members.result ≡ most_members_under d.version = c.most_members.ensures.version ∙ ap most_members_under c.version.ensures in
    let few : length members ≤ most_members_under d.version = omega (arith, c.count-size.ensures, count, most, c.most_members.ensures.latest, c.if-size-most_members.false) in
    faultless_set d c.args.name.now members fresh (returns-clause-distinct g c) (returns-clause-size g c).0 (returns-clause-room g c) few
