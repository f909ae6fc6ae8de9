-- What one line of a sheet says, if it can be read.
use Rattle.std.specs.Prelude.{ℕ, Bool, cond, ◌&&◌, List, Some, None, codes, Option}
use Rattle.values.specs.Same.{equal}
use Rattle.sheet_fields.specs.Cuts.{has, before, after, then}
use Rattle.sheet_fields.specs.Numbers.{number, between}
use Rattle.values.specs.Parties.{member}
use Rattle.sheet_fields.specs.Parties.{party_set}
use Rattle.sheet_lines.specs.declared.kind.Kind.{Kind}
use Rattle.sheet_lines.specs.declared.kind.Kind.TheVariants.{Blocks, Orders}
use Rattle.sheet_lines.specs.declared.call.Call.{Call}
use Rattle.sheet_lines.specs.declared.call.Call.TheVariants.{Hand, Repeat, Lose, Timer}

-- the part after `name=`, where the line has this name
abbrev pub field : List ℕ → List ℕ → Option (List ℕ)
field name l = cond (has 61 l && equal (before 61 l) name) (Some (after 61 l)) None

-- the number after `name=`
abbrev pub number_line : List ℕ → List ℕ → Option ℕ
number_line name l = then (field name l) number

abbrev pub kind_text : List ℕ → Option Kind
kind_text bs = cond (equal bs (codes "block")) (Some Blocks) (cond (equal bs (codes "order")) (Some Orders) None)

-- `kind=block` or `kind=order`
abbrev pub kind_line : List ℕ → Option Kind
kind_line l = then (field (codes "kind") l) kind_text

-- `parties=N`, N at most 8
abbrev pub parties_line : List ℕ → Option ℕ
parties_line l = between 0 8 (number_line (codes "parties") l)

-- whether this is a line of faults; it may be left out
abbrev pub faults_here : List ℕ → Bool
faults_here l = has 61 l && equal (before 61 l) (codes "faults")

-- `faulty=none`, or rising parties with commas
abbrev pub faulty_line : List ℕ → Option ℕ
faulty_line l = then (field (codes "faulty") l) party_set

-- the part of an own line: `-` of a faulty party, else a value of the kind
abbrev pub own_text : (List ℕ → Option (List ℕ)) → List ℕ → ℕ → ℕ → List ℕ → Option (List ℕ)
own_text reads blank faulty party bs =
    cond (member faulty party) (cond (equal bs (codes "-")) (Some blank) None) (reads bs)

abbrev pub own_line : (List ℕ → Option (List ℕ)) → List ℕ → ℕ → ℕ → List ℕ → Option (List ℕ)
own_line reads blank faulty party l = then (field (codes "own") l) (own_text reads blank faulty party)

-- a call with its number
abbrev pub called : (ℕ → Call) → Option ℕ → Option Call
called call None = None
called call (Some n) = Some (call n)

abbrev pub call_named : List ℕ → Option ℕ → Option Call
call_named name n =
    cond (equal name (codes "hand")) (called Hand n)
    (cond (equal name (codes "repeat")) (called Repeat n)
    (cond (equal name (codes "lose")) (called Lose n)
    (cond (equal name (codes "timer")) (called Timer n) None)))

-- `hand=`, `repeat=`, `lose=` or `timer=` with a number
abbrev pub call_line : List ℕ → Option Call
call_line l = cond (has 61 l) (call_named (before 61 l) (number (after 61 l))) None
