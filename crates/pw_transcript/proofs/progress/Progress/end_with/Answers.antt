use Rattle.std.proofs.Common.{◌∷◌, [], ◌++◌, refl, subst, append_assoc}
use Rattle.pw_decl.specs.inside.Fields.{declared}
use Rattle.pw_transcript.specs.inside.Running.{progress}
use Rattle.pw_transcript.specs.inside.Running.{Progress, AnsweredSoFar, FrontSoFar}
use Rattle.pw_transcript.proofs.RunParts.{on_ok_both, on_err_then}
use Rattle.pw_transcript.proofs.RunLemmas.{SoFar-held}
use Rattle.pw_transcript.proofs.progress.Progress.end_with.Goals as goal

pub returns-clause-ok : goal.returns-clause-ok
returns-clause-ok g c =
    let piece = c.args.piece.now in
    let with_piece : Progress = record (progress c.args.self.now) { line = c.extend.new.self } in
    on_ok_both c.end_line.result c.end_line.ensures.ok c.end_line.ensures.ok
    (λ answers _ first before s. subst (AnsweredSoFar g.O.Output.passes (declared c.args.declaration.now) first _ _) (append_assoc before piece (10 ∷ []))
    (answers first (before ++ piece) (SoFar-held g.O.Output.passes (declared c.args.declaration.now) first _ (progress c.args.self.now) with_piece before piece s
    c.requires.no_end refl refl c.extend.ensures c.requires.more)))

pub returns-clause-err : goal.returns-clause-err
returns-clause-err g c =
    let piece = c.args.piece.now in
    let with_piece : Progress = record (progress c.args.self.now) { line = c.extend.new.self } in
    on_err_then c.end_line.result c.end_line.ensures.err
    (λ fails first before s. subst (FrontSoFar g.O.Output.passes (declared c.args.declaration.now) first _) (append_assoc before piece (10 ∷ []))
    (fails first (before ++ piece) (SoFar-held g.O.Output.passes (declared c.args.declaration.now) first _ (progress c.args.self.now) with_piece before piece s
    c.requires.no_end refl refl c.extend.ensures c.requires.more)))
