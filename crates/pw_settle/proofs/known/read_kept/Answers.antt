use Rattle.std.proofs.Common.{◌≡◌, ℕ, ◌+◌, [], ◌∷◌, ◌++◌, length, refl, sym, ◌∙◌, subst, arith}
use Rattle.pw_facts.specs.declared.fact.Fact.{Fact}
use Rattle.pw_cells.specs.Cells.{Store}
use Rattle.pw_settle.proofs.KeptLemmas.{IsReadTo, all_kept, lie_upstream, read_more, read_none, says_told}
use Rattle.pw_settle.proofs.known.read_kept.Given as given
use Rattle.pw_settle.proofs.known.read_kept.Goals as goal

pub loop-cell-init : goal.loop-cell-init
loop-cell-init g c = record {
  same = refl;
  read = read_none c.args.store.now c.args.worldview.now c.in_ok-infos.infos.items c.in_ok-supports.supports c.in_ok-infos.ensures.items c.in_ok-supports.ensures;
}

pub loop-cell-preserved : goal.loop-cell-preserved
loop-cell-preserved g c =
    let infos = c.loop-cell.infos.items in
    let supports = c.loop-cell.supports in
    let same = c.loop-cell.invariant.same in
    let more = c.in_ok-push_kept.ensures.kept in
    let fact : Fact = more.fact in
    let so_far : IsReadTo c.loop-cell.store c.args.worldview.now c.loop-cell.cell infos supports =
    subst (λ (s : Store). IsReadTo s c.args.worldview.now c.loop-cell.cell infos supports) (sym {A = Store} same) c.loop-cell.invariant.read in
    let one : IsReadTo c.args.store.now c.args.worldview.now (c.loop-cell.cell + 1) (infos ++ fact.info ∷ []) (supports ++ fact.support ∷ []) =
    subst (λ (s : Store). IsReadTo s c.args.worldview.now (c.loop-cell.cell + 1) (infos ++ fact.info ∷ []) (supports ++ fact.support ∷ [])) same
    (read_more c.loop-cell.store c.args.worldview.now c.loop-cell.cell infos supports fact.info fact.support so_far
    (record { info_is = more.is.info; within = more.is.within; enough = more.is.larger; rests = more.is.rests; told = more.is.told })) in
    record {
      same = c.push_kept.ensures.unchanged ∙ same;
      read = rw (more.infos_are, more.supports_are) one;
    }

-- after the last cell all were read
all_read : (g : given.Over) (c : goal.After-loop-cell g) →
    IsReadTo c.args.store.now c.args.worldview.now (length c.args.store.now.cells) c.loop-cell.infos.items c.loop-cell.supports
all_read g c =
    let last : c.loop-cell.cell ≡ length c.args.store.now.cells =
    omega (arith, c.loop-cell-test.false, c.loop-cell.auto.cell-end, c.cells-cell-end.ensures) in
    subst (λ (n : ℕ). IsReadTo c.args.store.now c.args.worldview.now n c.loop-cell.infos.items c.loop-cell.supports) last c.loop-cell.invariant.read

pub returns-clause-kept : goal.returns-clause-kept
returns-clause-kept g c = all_kept c.args.store.now c.args.worldview.now c.loop-cell.infos.items c.loop-cell.supports (all_read g c)

pub returns-clause-told : goal.returns-clause-told
returns-clause-told g c = says_told c.args.store.now c.args.worldview.now c.loop-cell.infos.items c.loop-cell.supports (all_read g c)

pub returns-clause-upstream : goal.returns-clause-upstream
returns-clause-upstream g c = lie_upstream c.args.store.now c.args.worldview.now c.loop-cell.infos.items c.loop-cell.supports (all_read g c)
