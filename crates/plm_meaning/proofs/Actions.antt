-- Actions under a function.
use Rattle.std.proofs.Common.{◌≡◌, refl, ap}
use Rattle.word86.specs.Action.{Action, Silent, Touch, Enable, Disable, Halt, Over, Bad, map_action}

pub map_twice : {A R S T : Type 0} (g : S → T) (f : R → S) (a : Action A R) → map_action g (map_action f a) ≡ map_action (λ x. g (f x)) a
map_twice g f (Silent r) = refl
map_twice g f (Touch a k) = refl
map_twice g f (Enable r) = refl
map_twice g f (Disable r) = refl
map_twice g f (Halt r) = refl
map_twice g f Over = refl
map_twice g f (Bad module_index line) = refl

pub map_same : {A R : Type 0} (a : Action A R) → a ≡ map_action (λ x. x) a
map_same (Silent r) = refl
map_same (Touch a k) = refl
map_same (Enable r) = refl
map_same (Disable r) = refl
map_same (Halt r) = refl
map_same Over = refl
map_same (Bad module_index line) = refl

pub map_alike : {A R S : Type 0} (f g : R → S) → ((r : R) → f r ≡ g r) → (a : Action A R) → map_action f a ≡ map_action g a
map_alike f g h (Silent r) = ap Silent (h r)
map_alike f g h (Touch a k) = λ j. Touch a (λ v. h (k v) j)
map_alike f g h (Enable r) = ap Enable (h r)
map_alike f g h (Disable r) = ap Disable (h r)
map_alike f g h (Halt r) = ap Halt (h r)
map_alike f g h Over = refl
map_alike f g h (Bad module_index line) = refl
