-- The kinds of messages by their numbers.
use Rattle.std.specs.Prelude.{◌≡◌, ℕ, false, Result, MatchResult}
use Rattle.messages.specs.Messages.{between}
use Rattle.messages.specs.declared.kind.Kind.{Kind}
use Rattle.messages.specs.declared.kind.Kind.TheVariants.{Request, Suggest, Proof, Propose, Echo, Key1, Key2, Key3, Lock, Done, Abort}
use Rattle.messages.specs.declared.kind.NoKind.{NoKind}

-- the number that a message of the kind carries
abbrev pub kind_number : Kind → ℕ
kind_number Request = 1
kind_number Suggest = 2
kind_number Proof = 3
kind_number Propose = 4
kind_number Echo = 5
kind_number Key1 = 6
kind_number Key2 = 7
kind_number Key3 = 8
kind_number Lock = 9
kind_number Done = 10
kind_number Abort = 11

-- the result is the kind with this number, or there is none with it
abbrev pub HasNumber : ℕ → Result Kind NoKind → Type 0
HasNumber number r = MatchResult r (λ kind. kind_number kind ≡ number) (λ e. (e.0 ≡ number) × (between 1 11 number ≡ false))
