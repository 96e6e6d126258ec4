-- The program's arguments, by what `clap` says of a command with subcommands and of its matches.
use Rattle.std.specs.Prelude.{◌≡◌, List, [], ◌∷◌, Option, Some, map, option_map, codes, true}
use Rattle.std.specs.Borrow.{Bor}
use Rattle.clap.specs.Simple.{on_top}
use Rattle.clap.specs.Words.{App, IsAmong, Row, Rule, Text, fault_of, first_of, new_app, new_rule}
use Rattle.clap.specs.Words.{subcommand_of, with_rule, with_subcommand}
use Rattle.clap.specs.declared.error.kind.ErrorKind.{ErrorKind}
use Rattle.clap.specs.declared.error.kind.ErrorKind.TheVariants as kinds
use Rattle.clap.specs.declared.builder.value_parser.ValueParser.TheVariants as parsers
use Rattle.cadview.specs.declared.args.Layer.{Layer}
use Rattle.cadview.specs.declared.args.Layer.TheVariants.{Parcels, Strings, Points, Sources, Retired}
use Rattle.cadview.specs.declared.args.View.{View}
use Rattle.cadview.specs.declared.args.View.TheVariants.{Svg, Table, Diff}

-- the name of a layer
abbrev pub layer_name : Layer → Text
layer_name Parcels = codes "parcels"
layer_name Strings = codes "strings"
layer_name Points = codes "points"
layer_name Sources = codes "sources"
layer_name Retired = codes "retired"

-- no layer has this name
abbrev pub NamesNoLayer : Text → Type 0
NamesNoLayer name = (layer : Layer) → name ≡ layer_name layer → ⊥

-- a list of texts, wherever they stand
abbrev pub Texts : Type 0
Texts = Bor (List (Bor Text))

-- the list has the names of the layers
abbrev pub NamesLayers : Texts → Type 0
NamesLayers names = map (λ name. name.now) names.now
    ≡ map layer_name (Parcels ∷ Strings ∷ Points ∷ Sources ∷ Retired ∷ [])

-- a plan that has to be named, as `PLAN`
abbrev pub plan_rule : Text → Rule
plan_rule id = record (new_rule id) { value_names = 1; required = true }

-- `--since OLD`
abbrev pub since_rule : Rule
since_rule = record (new_rule (codes "since")) { long = Some (codes "since"); value_names = 1 }

-- `--title TITLE`
abbrev pub title_rule : Rule
title_rule = record (new_rule (codes "title")) { long = Some (codes "title"); value_names = 1 }

-- `--layer LAYER`, one of these names, and `parcels` where it is left out
abbrev pub layer_rule : Texts → Rule
layer_rule names = record (new_rule (codes "layer")) {
  long = Some (codes "layer");
  value_names = 1;
  parser = Some (parsers.Names names);
  defaults = codes "parcels" ∷ [];
}

-- `svg PLAN [--since OLD] [--title TITLE]`
abbrev pub svg : App
svg = with_rule (with_rule (with_rule (new_app (codes "svg")) (plan_rule (codes "plan"))) since_rule)
    title_rule

-- `table PLAN [--layer LAYER]`, where the layer is one of these names
abbrev pub table : Texts → App
table names = with_rule (with_rule (new_app (codes "table")) (plan_rule (codes "plan")))
    (layer_rule names)

-- `diff OLD NEW`
abbrev pub diff : App
diff = with_rule (with_rule (new_app (codes "diff")) (plan_rule (codes "old")))
    (plan_rule (codes "new"))

-- a command that has a version, wants a subcommand, and shows its help where no word is given
abbrev pub with_settings : App → App
with_settings = on_top (λ s. record s {
  has_version = true;
  subcommand_required = true;
  arg_required_else_help = true;
})

-- `cadview` before its subcommands
abbrev pub cadview_alone : App
cadview_alone = with_settings (new_app (codes "cadview"))

-- `cadview svg ..`, `cadview table ..` and `cadview diff ..`, where a layer is one of these names
abbrev pub cadview : Texts → App
cadview names = with_subcommand (with_subcommand (with_subcommand cadview_alone svg.top)
    (table names).top) diff.top

-- the subcommand `table`, with the names of the layers
pub record IsTable (app : App) : Type 0 where
  pub names : Texts
  pub layers : NamesLayers names
  pub same : app ≡ table names

-- the program's command line, with the names of the layers
pub record IsCadview (app : App) : Type 0 where
  pub names : Texts
  pub layers : NamesLayers names
  pub same : app ≡ cadview names

-- a subcommand of this name, with these matches, asks for the view
abbrev pub MatchesAskFor : Text → List Row → View → Type 0
MatchesAskFor name rows (Svg plan since title) = (name ≡ codes "svg")
    × (first_of (codes "plan") rows ≡ Some plan.now)
    × (first_of (codes "since") rows ≡ option_map (λ older. older.now) since)
    × (first_of (codes "title") rows ≡ option_map (λ words. words.now) title)
MatchesAskFor name rows (Table plan layer) = (name ≡ codes "table")
    × (first_of (codes "plan") rows ≡ Some plan.now)
    × (first_of (codes "layer") rows ≡ Some (layer_name layer))
MatchesAskFor name rows (Diff old new) = (name ≡ codes "diff")
    × (first_of (codes "old") rows ≡ Some old.now)
    × (first_of (codes "new") rows ≡ Some new.now)

-- it asks for no view
abbrev pub MatchesAskForNone : Text → List Row → Type 0
MatchesAskForNone name rows = (view : View) → MatchesAskFor name rows view → ⊥

-- a subcommand was met, and with its matches asks for the view
pub record SubcommandAsksFor (met : Option (Text × List Row)) (view : View) : Type 0 where
  pub name : Text
  pub rows : List Row
  pub is_met : met ≡ Some (name, rows)
  pub asks : MatchesAskFor name rows view

-- no view is asked for
abbrev pub SubcommandAsksForNone : Option (Text × List Row) → Type 0
SubcommandAsksForNone met = (view : View) → SubcommandAsksFor met view → ⊥

-- the words ask for the view: they have no fault, and it is that of the subcommand that they name
pub record AsksFor (words : List Text) (view : View) : Type 0 where
  pub app : App
  pub is_cadview : IsCadview app
  pub no_fault : fault_of app words ≡ []
  pub asks : SubcommandAsksFor (subcommand_of app words) view

-- the words are refused by an error of this kind: for want of memory, for a fault in them (a call
-- for help or the version is one), or since they ask for no view
pub data IsRefused (words : List Text) : ErrorKind → Type 0 where
  no_memory : IsRefused words kinds.OutOfMemory
  at_fault : {kind : ErrorKind} (app : App) → IsCadview app → IsAmong kind (fault_of app words)
      → IsRefused words kind
  no_view : (app : App) → IsCadview app → fault_of app words ≡ []
      → SubcommandAsksForNone (subcommand_of app words) → IsRefused words kinds.MissingSubcommand
