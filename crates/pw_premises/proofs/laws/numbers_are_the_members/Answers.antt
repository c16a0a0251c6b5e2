use Rattle.pw_premises.proofs.NumberLists.{numbers_of-rising, numbers_of-members}
use Rattle.pw_premises.proofs.laws.numbers_are_the_members.Goals as goal

pub returns : goal.returns
returns c = record { rising = numbers_of-rising; members = numbers_of-members }
