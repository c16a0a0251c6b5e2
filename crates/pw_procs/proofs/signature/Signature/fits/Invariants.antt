use Rattle.std.proofs.Common.{◌≡◌, length, take, map}
use Rattle.pw_info.specs.Information.{kind_of}
use Rattle.pw_procs.proofs.signature.Signature.fits.Given as goal

-- the kinds of the inputs so far are recorded
abbrev pub invariant-loop-place : goal.invariant-loop-place
invariant-loop-place l = record {
  room : length l.kinds ≡ 8;
  so_far : take l.place l.kinds ≡ map kind_of (take l.place l.inputs);
}
