-- The records of answers.
use Rattle.std.specs.Prelude.{ℕ, List, [], ◌∷◌, codes, decimal}
use Rattle.cad_rows.specs.declared.names.Name.{Name}
use Rattle.cad_rows.specs.declared.names.Name.TheVariants as name
use Rattle.cad_rows.specs.declared.refusals.Rule.{Rule}
use Rattle.cad_rows.specs.declared.refusals.Rule.TheVariants.{V3, V4, V6, V7, V8}
use Rattle.cad_rows.specs.declared.refusals.Refusal.{Refusal}
use Rattle.cad_rows.specs.declared.refusals.Refusal.TheVariants as told
use Rattle.cad_history.specs.declared.commands.Answer.{Answer}
use Rattle.cad_history.specs.declared.commands.Answer.TheVariants as answers
use Rattle.cad_files.specs.Texts.{Record}

-- a record of one word
abbrev pub word_record : List ℕ → Record
word_record word = word ∷ [] ∷ [] ∷ [] ∷ [] ∷ [] ∷ [] ∷ []

-- a refusal: its number, its name, a kind and a value
abbrev pub refused_record : List ℕ → List ℕ → List ℕ → List ℕ → Record
refused_record number called kind value =
    codes "refused" ∷ number ∷ called ∷ kind ∷ value ∷ [] ∷ [] ∷ []

-- the kind of a name
abbrev pub kind_of : Name → List ℕ
kind_of (name.Point n) = codes "point"
kind_of (name.String n) = codes "string"
kind_of (name.Parcel n) = codes "parcel"
kind_of (name.Source n) = codes "source"

-- the number of a name
abbrev pub number_named : Name → ℕ
number_named (name.Point n) = n
number_named (name.String n) = n
number_named (name.Parcel n) = n
number_named (name.Source n) = n

-- a refusal about a row
abbrev pub named_record : List ℕ → List ℕ → Name → Record
named_record number called n = refused_record number called (kind_of n) (decimal (number_named n))

-- the name of a rule
abbrev pub rule_name : Rule → List ℕ
rule_name V3 = codes "V3"
rule_name V4 = codes "V4"
rule_name V6 = codes "V6"
rule_name V7 = codes "V7"
rule_name V8 = codes "V8"

abbrev pub refusal_record : Refusal → Record
refusal_record told.Range = refused_record (codes "1") (codes "range") [] []
refusal_record (told.Unknown n) = named_record (codes "2") (codes "unknown") n
refusal_record (told.Taken n) = named_record (codes "3") (codes "taken") n
refusal_record (told.Retired n) = named_record (codes "4") (codes "retired") (name.Parcel n)
refusal_record told.Outside = refused_record (codes "5") (codes "outside") [] []
refusal_record told.NoChange = refused_record (codes "6") (codes "no-change") [] []
refusal_record (told.NotFree n) = named_record (codes "7") (codes "not-free") (name.Point n)
refusal_record (told.NotDegreeTwo n) =
    named_record (codes "8") (codes "not-degree-two") (name.Point n)
refusal_record told.BadChain = refused_record (codes "9") (codes "bad-chain") [] []
refusal_record (told.NotInParcel n) =
    named_record (codes "10") (codes "not-in-parcel") (name.Point n)
refusal_record told.ChainJoinsRings = refused_record (codes "11") (codes "chain-joins-rings") [] []
refusal_record told.SameParcel = refused_record (codes "12") (codes "same-parcel") [] []
refusal_record told.NotNeighbours = refused_record (codes "13") (codes "not-neighbours") [] []
refusal_record told.NotOneChain = refused_record (codes "14") (codes "not-one-chain") [] []
refusal_record told.AlreadyAttached = refused_record (codes "15") (codes "already-attached") [] []
refusal_record told.NotAttached = refused_record (codes "16") (codes "not-attached") [] []
refusal_record told.Full = refused_record (codes "17") (codes "full") [] []
refusal_record (told.Breaks rule) = refused_record (codes "18") (codes "breaks") (rule_name rule) []
refusal_record told.Memory = refused_record (codes "19") (codes "memory") [] []

abbrev pub answer_record : Answer → Record
answer_record answers.Done = word_record (codes "ok")
answer_record answers.Nothing = word_record (codes "nothing")
answer_record (answers.Refused refusal) = refusal_record refusal

-- the answer to a record that is none of a script
abbrev pub syntax_record : Record
syntax_record = word_record (codes "syntax")
