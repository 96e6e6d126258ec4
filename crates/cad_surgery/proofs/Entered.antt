-- An edit between two exchanges of the grid: what comes is entered, the edit is made or not, and what
-- goes, or what came, leaves again.
use Rattle.std.proofs.Common.{◌≡◌, ◌∙◌, sym, subst}
use Rattle.cad_map.specs.Map.{Map}
use Rattle.cell_grid.specs.Together.{Listed}
use Rattle.edit_records.specs.Exchanged.{IsExchange, IsGridOfBoth, CanEnter, CanLeave}
use Rattle.edit_records.specs.Gridded.{IsGridOf}
use Rattle.edit_records.proofs.Exchanges.{exchange-back, both-back}
use Rattle.map_parts.specs.Parts.{Parts, map_of, kept_at}
use Rattle.cad_surgery.specs.AtRest.{IsAtRest}
use Rattle.cad_surgery.specs.Proper.{IsProper}
use Rattle.cad_surgery.proofs.GridSteps.{same-map, rests}

module _ {old : Parts} {n : Map} {gone come : Listed} (x : IsExchange (map_of old) gone come n) (rest : IsAtRest old) where
  pub can-enter : CanEnter old.grid come
  can-enter = (map_of old, gone, n, rest.grid, x)

  module _ (entered later : Parts) (both : (a b : Map) (out : Listed) → IsGridOf old.grid a → IsExchange a out come b → IsGridOfBoth entered.grid a b) (grid : later.grid ≡ entered.grid) where
    held : IsGridOfBoth later.grid (map_of old) n
    held = subst (λ g. IsGridOfBoth g (map_of old) n) (sym grid) (both (map_of old) n gone rest.grid x)

    -- what goes can leave
    pub leaves : CanLeave later.grid gone
    leaves = (map_of old, come, n, held, x)

    -- and so can what came
    pub returns : CanLeave later.grid come
    returns = (n, gone, map_of old, both-back later.grid (map_of old) n held, exchange-back (map_of old) n gone come x)

    -- then all is at rest
    module _ {left : Parts} (last : left ≡ record later { grid = left.grid }) (proper : IsProper (map_of later) later.table.rows (kept_at later)) where
      pub rests-there : map_of later ≡ n → ((a b : Map) (put : Listed) → IsGridOfBoth later.grid a b → IsExchange a gone put b → IsGridOf left.grid b) → IsAtRest left
      rests-there is leave = rests later left last proper n is (leave (map_of old) n come held x)

      pub rests-here : map_of later ≡ map_of old → ((a b : Map) (out : Listed) → IsGridOfBoth later.grid a b → IsExchange a come out b → IsGridOf left.grid b) → IsAtRest left
      rests-here is leave =
          rests later left last proper (map_of old) is
          (leave n (map_of old) gone (both-back later.grid (map_of old) n held) (exchange-back (map_of old) n gone come x))

-- an edit that wasn't made left the map as it was
pub stayed : (old entered later left : Parts) → entered ≡ record old { grid = entered.grid } → map_of later ≡ map_of entered → left ≡ record later { grid = left.grid } → map_of left ≡ map_of old
stayed old entered later left first is last = same-map later left last ∙ is ∙ same-map old entered first
