use Rattle.pw_procs.proofs.KindLaws.{of_output_kind, gives_accepted}
use Rattle.pw_procs.proofs.laws.procedures_give_their_output_kind.Goals as goal

pub returns : goal.returns
returns c = record { kind = λ procedure. of_output_kind procedure.signature procedure.meaning procedure.slots; accepted = gives_accepted }
