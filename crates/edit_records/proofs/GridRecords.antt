-- What the edit of a record exchanges in a grid, where it is nothing.
use Rattle.std.proofs.Common.{◌≡◌, ℕ, refl}
use Rattle.std.specs.Prelude.{⊤}
use Rattle.geo_exact.specs.Position.{Position}
use Rattle.cad_rows.specs.declared.rows.PointRow.{PointRow}
use Rattle.cad_rows.specs.declared.rows.StringRow.{StringRow}
use Rattle.cad_map.specs.Map.{Map}
use Rattle.edit_records.specs.GridEdits.{gone_by, come_by}
use Rattle.edit_records.specs.Record.{edit_of}
use Rattle.edit_records.specs.declared.record.SmallRecord.{SmallRecord}
use Rattle.edit_records.specs.declared.record.SmallRecord.TheVariants.{AddSource, AddPoint, DropPoint, Split, Join, Divide, MergeAlong, MergeIsland, Move, Attach, Detach, Rename, Enclose}
use Rattle.edit_records.proofs.GridEdits.{nothing}

-- the record is of an edit that takes strings or a point out of the grid
abbrev pub IsTaking : SmallRecord → Type 0
IsTaking (DropPoint row place) = ⊤
IsTaking (Split row place p at first second) = ⊤
IsTaking (Join row place first i second j string) = ⊤
IsTaking (MergeAlong kept row place chain strings start end moved) = ⊤
IsTaking (MergeIsland kept row place points strings moved) = ⊤
IsTaking (Move p from to) = ⊤
IsTaking _ = ⊥

-- the record is of an edit that puts strings or a point into the grid
abbrev pub IsBringing : SmallRecord → Type 0
IsBringing (AddPoint p at) = ⊤
IsBringing (Split row place p at first second) = ⊤
IsBringing (Join row place first i second j string) = ⊤
IsBringing (Divide face chain strings parcel label source start end moved) = ⊤
IsBringing (Move p from to) = ⊤
IsBringing (Enclose face points strings parcel label source moved) = ⊤
IsBringing _ = ⊥

pub takes-nothing : (b : Map) (r : SmallRecord) → ¬ IsTaking r → gone_by b (edit_of r) ≡ nothing
takes-nothing b (AddSource row) off = refl
takes-nothing b (AddPoint p at) off = refl
takes-nothing b (DropPoint row place) off = absurd (off tt)
takes-nothing b (Split row place p at first second) off = absurd (off tt)
takes-nothing b (Join row place first i second j string) off = absurd (off tt)
takes-nothing b (Divide face chain strings parcel label source start end moved) off = refl
takes-nothing b (MergeAlong kept row place chain strings start end moved) off = absurd (off tt)
takes-nothing b (MergeIsland kept row place points strings moved) off = absurd (off tt)
takes-nothing b (Move p from to) off = absurd (off tt)
takes-nothing b (Attach i source) off = refl
takes-nothing b (Detach i source place) off = refl
takes-nothing b (Rename p from to) off = refl
takes-nothing b (Enclose face points strings parcel label source moved) off = refl

pub brings-nothing : (b : Map) (r : SmallRecord) → ¬ IsBringing r → come_by b (edit_of r) ≡ nothing
brings-nothing b (AddSource row) off = refl
brings-nothing b (AddPoint p at) off = absurd (off tt)
brings-nothing b (DropPoint row place) off = refl
brings-nothing b (Split row place p at first second) off = absurd (off tt)
brings-nothing b (Join row place first i second j string) off = absurd (off tt)
brings-nothing b (Divide face chain strings parcel label source start end moved) off = absurd (off tt)
brings-nothing b (MergeAlong kept row place chain strings start end moved) off = refl
brings-nothing b (MergeIsland kept row place points strings moved) off = refl
brings-nothing b (Move p from to) off = absurd (off tt)
brings-nothing b (Attach i source) off = refl
brings-nothing b (Detach i source place) off = refl
brings-nothing b (Rename p from to) off = refl
brings-nothing b (Enclose face points strings parcel label source moved) off = absurd (off tt)

-- a record of none of these edits takes nothing out
pub off-taking : (r : SmallRecord) → ((row : PointRow) (place : ℕ) → r ≡ DropPoint row place → ⊥)
    → ((row : StringRow) (place p : ℕ) (at : Position) (first second : ℕ) → r ≡ Split row place p at first second → ⊥)
    → ((row : PointRow) (place : ℕ) (first : StringRow) (i : ℕ) (second : StringRow) (j string : ℕ) → r ≡ Join row place first i second j string → ⊥)
    → ((kept : _) (row : _) (place : _) (chain : _) (strings : _) (start end : _) (moved : _) → r ≡ MergeAlong kept row place chain strings start end moved → ⊥)
    → ((kept : _) (row : _) (place : _) (points : _) (strings : _) (moved : _) → r ≡ MergeIsland kept row place points strings moved → ⊥)
    → ((p : ℕ) (from to : Position) → r ≡ Move p from to → ⊥) → ¬ IsTaking r
off-taking (DropPoint row place) drop split join along island move is = drop row place refl
off-taking (Split row place p at first second) drop split join along island move is = split row place p at first second refl
off-taking (Join row place first i second j string) drop split join along island move is = join row place first i second j string refl
off-taking (Move p from to) drop split join along island move is = move p from to refl
off-taking (AddSource row) drop split join along island move is = is
off-taking (AddPoint p at) drop split join along island move is = is
off-taking (Divide face chain strings parcel label source start end moved) drop split join along island move is = is
off-taking (MergeAlong kept row place chain strings start end moved) drop split join along island move is = along kept row place chain strings start end moved refl
off-taking (MergeIsland kept row place points strings moved) drop split join along island move is = island kept row place points strings moved refl
off-taking (Attach i source) drop split join along island move is = is
off-taking (Detach i source place) drop split join along island move is = is
off-taking (Rename p from to) drop split join along island move is = is
off-taking (Enclose face points strings parcel label source moved) drop split join along island move is = is

-- and a record of none of these edits puts nothing in
pub off-bringing : (r : SmallRecord) → ((p : ℕ) (at : Position) → r ≡ AddPoint p at → ⊥)
    → ((row : StringRow) (place p : ℕ) (at : Position) (first second : ℕ) → r ≡ Split row place p at first second → ⊥)
    → ((row : PointRow) (place : ℕ) (first : StringRow) (i : ℕ) (second : StringRow) (j string : ℕ) → r ≡ Join row place first i second j string → ⊥)
    → ((face : _) (chain strings : _) (parcel : _) (label : _) (source : _) (start end : _) (moved : _) → r ≡ Divide face chain strings parcel label source start end moved → ⊥)
    → ((p : ℕ) (from to : Position) → r ≡ Move p from to → ⊥)
    → ((face : _) (points strings : _) (parcel : _) (label : _) (source : _) (moved : _) → r ≡ Enclose face points strings parcel label source moved → ⊥) → ¬ IsBringing r
off-bringing (AddPoint p at) add split join divide move enclose is = add p at refl
off-bringing (Split row place p at first second) add split join divide move enclose is = split row place p at first second refl
off-bringing (Join row place first i second j string) add split join divide move enclose is = join row place first i second j string refl
off-bringing (Divide face chain strings parcel label source start end moved) add split join divide move enclose is = divide face chain strings parcel label source start end moved refl
off-bringing (Move p from to) add split join divide move enclose is = move p from to refl
off-bringing (Enclose face points strings parcel label source moved) add split join divide move enclose is = enclose face points strings parcel label source moved refl
off-bringing (AddSource row) add split join divide move enclose is = is
off-bringing (DropPoint row place) add split join divide move enclose is = is
off-bringing (MergeAlong kept row place chain strings start end moved) add split join divide move enclose is = is
off-bringing (MergeIsland kept row place points strings moved) add split join divide move enclose is = is
off-bringing (Attach i source) add split join divide move enclose is = is
off-bringing (Detach i source place) add split join divide move enclose is = is
off-bringing (Rename p from to) add split join divide move enclose is = is
