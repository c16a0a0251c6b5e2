use Rattle.pw_procs.proofs.Hulls.{image_one, image_two}
use Rattle.pw_procs.proofs.HullLaws.{hull_is}
use Rattle.pw_procs.proofs.laws.hull_lies_between.Goals as goal

pub returns : goal.returns
returns c = record {
  image_of_one = image_one;
  image_of_two = image_two;
  hull = λ numbers set are. hull_is _ set are;
  hull_of_one = λ op x. hull_is _ _ (image_one op x);
  hull_of_two = λ op x y. hull_is _ _ (image_two op x y);
}
