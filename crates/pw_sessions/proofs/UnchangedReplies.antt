-- What leaves each reply unchanged, and what commands note.
use Rattle.std.proofs.Common.{◌≡◌, true, List, refl, sym, ap, ◌∙◌, subst}
use Rattle.pw_info.specs.declared.info.Info.{Info}
use Rattle.pw_info.specs.Information.{IsContradiction}
use Rattle.pw_premises.specs.Premises.{Premises}
use Rattle.pw_cells.specs.Cells.{Cell, told_in}
use Rattle.pw_network.specs.Network.{IsWellNetwork}
use Rattle.pw_reasons.specs.Nogood.{covers}
use Rattle.pw_sessions.specs.Carrying.{NotesReasons, ShowsNoChange}
use Rattle.pw_sessions.specs.Reply.{Reply}
use Rattle.pw_sessions.specs.Reply as reply
use Rattle.pw_sessions.specs.inside.Steps.{IsAsBefore, OnlyKeepsMore}
use Rattle.pw_sessions.specs.Workbench.{Workbench}
use Rattle.pw_sessions.proofs.AskedCells.{well_left}
use Rattle.pw_sessions.proofs.WorkbenchLemmas.{left_as_before, left_keeping}

-- ---- no change

pub no_change_itself : (bench : Workbench) → ShowsNoChange bench bench
no_change_itself bench = record { network = refl; told = λ cell w. refl; beliefs = refl; left = λ d before left. left }

-- if only the room for cells differs, or how often procedures were called
pub no_change_as_before : (old new : Workbench) → IsWellNetwork old.network → IsAsBefore old new → ShowsNoChange old new
no_change_as_before old new network still = record {
  network = still.network;
  told = λ cell w. ap (λ (cs : List Cell). told_in (record { cells = cs; room = 0; arrivals = old.store.arrivals }) cell w) still.cells_are;
  beliefs = still.beliefs;
  left = λ d before left. left_as_before d (well_left d before old network left).kinds before old new still left;
}

-- if only more is kept
pub no_change_keeping : (old : Workbench) (user : _) (new : Workbench) → IsWellNetwork old.network → OnlyKeepsMore old user new → ShowsNoChange old new
no_change_keeping old user new network keeps = record {
  network = keeps.network;
  told = keeps.grows.told;
  beliefs = keeps.beliefs;
  left = λ d before left. left_keeping d (well_left d before old network left).kinds before old user new keeps left;
}

-- ---- what is noted

-- if nothing new is noted, and no reason is answered
pub notes_none : (old new : List Premises) (answer : Reply) → new ≡ old →
    ((info : Info) (reason : Premises) → answer ≡ reply.Because info reason → ⊥) → NotesReasons old new answer
notes_none old new answer same quiet = record {
  stay = λ w covered. ap (λ (l : List Premises). covers l w) same ∙ covered;
  noted = λ info reason is. absurd (quiet info reason is);
}

-- if a why was answered
pub notes_reason : (old found new : List Premises) (info value : Info) (reason : Premises) → found ≡ old →
    ((w : Premises) → covers found w ≡ true → covers new w ≡ true) → info ≡ value → (IsContradiction value → covers new reason ≡ true) →
    NotesReasons old new (reply.Because info reason)
notes_reason old found new info value reason same stay is covered = record {
  stay = λ w before. stay w (ap (λ (l : List Premises). covers l w) same ∙ before);
  noted = λ other premises told contradictory.
      let its : info ≡ other = cc in
      let own : reason ≡ premises = cc in
      subst (λ (p : Premises). covers new p ≡ true) own (covered (subst IsContradiction (sym its ∙ is) contradictory));
}
