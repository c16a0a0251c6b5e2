use Rattle.std.proofs.Common.{sym}
use Rattle.pw_decl.proofs.DeclaredLemmas.{place_found, place_none_if}
use Rattle.pw_decl.proofs.declaration.place_in.Goals as goal

pub returns-in_err-place-clause-none : goal.returns-in_err-place-clause-none
returns-in_err-place-clause-none g c = place_none_if c.from_residual.result c.args.names.now c.args.name.now (sym c.in_err-place.ensures.number)

pub returns-clause-found : goal.returns-clause-found
returns-clause-found g c = place_found c.args.names.now c.args.name.now c.in_ok-place.place (sym c.in_ok-place.ensures.number)
