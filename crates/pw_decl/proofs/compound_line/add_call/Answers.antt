use Rattle.std.proofs.Common.{refl}
use Rattle.pw_decl.specs.inside.Held.{size_of}
use Rattle.pw_decl.proofs.CompoundLemmas.{grown_call}
use Rattle.pw_decl.proofs.compound_line.add_call.Goals as goal

pub returns-clause-ok : goal.returns-clause-ok
returns-clause-ok g c =
    grown_call c.args.opened.now _ c.args.callable c.args.arguments (size_of c.args.size) refl refl refl refl c.in_ok-push.ensures.items refl
