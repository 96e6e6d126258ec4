use Rattle.std.proofs.Common.{rules, ap, sym, codes, List, Option, Some, None, option_map, ◌≡◌, ◌∙◌, IfNone}
use Rattle.std.specs.Borrow.{Bor}
use Rattle.clap.specs.Words.{Row, Text, first_of, first_value, found_of, rows_of}
use Rattle.clap.specs.declared.parser.matches.Found.{Found}
use Rattle.clap.proofs.WalkLemmas.{first_value-rows}
use Rattle.cadview.specs.declared.args.Layer.{Layer}
use Rattle.cadview.specs.declared.args.View.TheVariants.{Svg, Table, Diff}
use Rattle.cadview.specs.Arguments.{MatchesAskForNone, NamesNoLayer, layer_name}
use Rattle.cadview.proofs.args.view_of.Goals as goal

-- what `get_str` reads, by the rows
read : (f : Found) (id : Text) (o : Option (Bor Text)) → option_map (λ s. s.now) o ≡ first_value f id → first_of id (rows_of f) ≡ option_map (λ s. s.now) o
read f id o e = sym (first_value-rows f id) ∙ sym e

if_none : {T : Type 0} (o : Option T) (P : Type 0) → P → IfNone o P
if_none None P p = p
if_none (Some x) P p = tt

no_svg : (name : Text) (rows : List Row) → name ≡ codes "svg" → first_of (codes "plan") rows ≡ None → MatchesAskForNone name rows
no_svg name rows named none (Svg plan since title) asks = let bad : None ≡ Some plan.now = sym none ∙ asks.1 in cc
no_svg name rows named none (Table plan layer) asks = let bad : codes "svg" ≡ codes "table" = sym named ∙ asks.0 in cc
no_svg name rows named none (Diff old new) asks = let bad : codes "svg" ≡ codes "diff" = sym named ∙ asks.0 in cc

no_table : (name : Text) (rows : List Row) → name ≡ codes "table"
    → ((plan : Text) (layer : Layer) → first_of (codes "plan") rows ≡ Some plan → first_of (codes "layer") rows ≡ Some (layer_name layer) → ⊥)
    → MatchesAskForNone name rows
no_table name rows named none (Svg plan since title) asks = let bad : codes "table" ≡ codes "svg" = sym named ∙ asks.0 in cc
no_table name rows named none (Table plan layer) asks = none plan.now layer asks.1 asks.2
no_table name rows named none (Diff old new) asks = let bad : codes "table" ≡ codes "diff" = sym named ∙ asks.0 in cc

no_diff : (name : Text) (rows : List Row) → name ≡ codes "diff"
    → ((old new : Text) → first_of (codes "old") rows ≡ Some old → first_of (codes "new") rows ≡ Some new → ⊥)
    → MatchesAskForNone name rows
no_diff name rows named none (Svg plan since title) asks = let bad : codes "diff" ≡ codes "svg" = sym named ∙ asks.0 in cc
no_diff name rows named none (Table plan layer) asks = let bad : codes "diff" ≡ codes "table" = sym named ∙ asks.0 in cc
no_diff name rows named none (Diff old new) asks = none old.now new.now asks.1 asks.2

pub returns-in_ok-get_str-in-svg-clause-some : goal.returns-in_ok-get_str-in-svg-clause-some
returns-in_ok-get_str-in-svg-clause-some c =
    let f = found_of c.args.matches.now in
    let got : c.get_str.result ≡ Some c.in_ok-get_str-in-svg.field-0 = search rules in
    let named : c.args.name.now ≡ codes "svg" = search rules in (
      named,
      read f (codes "plan") c.get_str.result c.get_str.ensures ∙ ap (option_map (λ s. s.now)) got,
      read f (codes "since") c.get_str-in-svg.result c.get_str-in-svg.ensures,
      read f (codes "title") c.get_str-in-svg-2.result c.get_str-in-svg-2.ensures,
    )

pub returns-in_err-get_str-in-svg-clause-none : goal.returns-in_err-get_str-in-svg-clause-none
returns-in_err-get_str-in-svg-clause-none c =
    let f = found_of c.args.matches.now in
    let got : c.get_str.result ≡ None = search rules in
    let named : c.args.name.now ≡ codes "svg" = search rules in
    if_none c.from_residual.result _ (no_svg c.args.name.now (rows_of f) named
    (read f (codes "plan") c.get_str.result c.get_str.ensures ∙ ap (option_map (λ s. s.now)) got))

pub returns-in_ok-layer_of-in-table-clause-some : goal.returns-in_ok-layer_of-in-table-clause-some
returns-in_ok-layer_of-in-table-clause-some c =
    let f = found_of c.args.matches.now in
    let plan : c.get_str-in-table.result ≡ Some c.in_ok-get_str-in-table.field-0 = search rules in
    let layer : c.get_str-in-table-2.result ≡ Some c.in_ok-get_str-in-table-2.field-0 = search rules in
    let called : c.in_ok-get_str-in-table-2.field-0.now ≡ layer_name c.in_ok-layer_of-in-table.field-0 = c.in_ok-layer_of-in-table.ensures.some in
    let named : c.args.name.now ≡ codes "table" = search rules in (
      named,
      read f (codes "plan") c.get_str-in-table.result c.get_str-in-table.ensures ∙ ap (option_map (λ s. s.now)) plan,
      read f (codes "layer") c.get_str-in-table-2.result c.get_str-in-table-2.ensures ∙ ap (option_map (λ s. s.now)) layer
          ∙ ap (λ (t : Text). Some t) called,
    )

pub returns-in_err-get_str-in-table-clause-none : goal.returns-in_err-get_str-in-table-clause-none
returns-in_err-get_str-in-table-clause-none c =
    let f = found_of c.args.matches.now in
    let got : c.get_str-in-table.result ≡ None = search rules in
    let named : c.args.name.now ≡ codes "table" = search rules in
    let none : first_of (codes "plan") (rows_of f) ≡ None =
    read f (codes "plan") c.get_str-in-table.result c.get_str-in-table.ensures ∙ ap (option_map (λ s. s.now)) got in
    if_none c.from_residual-in_err-get_str-in-table.result _ (no_table c.args.name.now (rows_of f) named
    (λ plan layer is_plan is_layer. let bad : None ≡ Some plan = sym none ∙ is_plan in cc))

pub returns-in_err-get_str-in-table-2-clause-none : goal.returns-in_err-get_str-in-table-2-clause-none
returns-in_err-get_str-in-table-2-clause-none c =
    let f = found_of c.args.matches.now in
    let got : c.get_str-in-table-2.result ≡ None = search rules in
    let named : c.args.name.now ≡ codes "table" = search rules in
    let none : first_of (codes "layer") (rows_of f) ≡ None =
    read f (codes "layer") c.get_str-in-table-2.result c.get_str-in-table-2.ensures ∙ ap (option_map (λ s. s.now)) got in
    if_none c.from_residual-in_err-get_str-in-table-2.result _ (no_table c.args.name.now (rows_of f) named
    (λ plan layer is_plan is_layer. let bad : None ≡ Some (layer_name layer) = sym none ∙ is_layer in cc))

pub returns-in_err-layer_of-in-table-clause-none : goal.returns-in_err-layer_of-in-table-clause-none
returns-in_err-layer_of-in-table-clause-none c =
    let f = found_of c.args.matches.now in
    let got : c.get_str-in-table-2.result ≡ Some c.in_ok-get_str-in-table-2.field-0 = search rules in
    let named : c.args.name.now ≡ codes "table" = search rules in
    let word = c.in_ok-get_str-in-table-2.field-0.now in
    let unknown : NamesNoLayer word = c.in_err-layer_of-in-table.ensures.none in
    let some : first_of (codes "layer") (rows_of f) ≡ Some word =
    read f (codes "layer") c.get_str-in-table-2.result c.get_str-in-table-2.ensures ∙ ap (option_map (λ s. s.now)) got in
    if_none c.from_residual-in_err-layer_of-in-table.result _ (no_table c.args.name.now (rows_of f) named
    (λ plan layer is_plan is_layer. let same : Some word ≡ Some (layer_name layer) = sym some ∙ is_layer in unknown layer (cc)))

pub returns-in_ok-get_str-in-diff-2-clause-some : goal.returns-in_ok-get_str-in-diff-2-clause-some
returns-in_ok-get_str-in-diff-2-clause-some c =
    let f = found_of c.args.matches.now in
    let old : c.get_str-in-diff.result ≡ Some c.in_ok-get_str-in-diff.field-0 = search rules in
    let new : c.get_str-in-diff-2.result ≡ Some c.in_ok-get_str-in-diff-2.field-0 = search rules in
    let named : c.args.name.now ≡ codes "diff" = search rules in (
      named,
      read f (codes "old") c.get_str-in-diff.result c.get_str-in-diff.ensures ∙ ap (option_map (λ s. s.now)) old,
      read f (codes "new") c.get_str-in-diff-2.result c.get_str-in-diff-2.ensures ∙ ap (option_map (λ s. s.now)) new,
    )

pub returns-in_err-get_str-in-diff-clause-none : goal.returns-in_err-get_str-in-diff-clause-none
returns-in_err-get_str-in-diff-clause-none c =
    let f = found_of c.args.matches.now in
    let got : c.get_str-in-diff.result ≡ None = search rules in
    let named : c.args.name.now ≡ codes "diff" = search rules in
    let none : first_of (codes "old") (rows_of f) ≡ None =
    read f (codes "old") c.get_str-in-diff.result c.get_str-in-diff.ensures ∙ ap (option_map (λ s. s.now)) got in
    if_none c.from_residual-in_err-get_str-in-diff.result _ (no_diff c.args.name.now (rows_of f) named
    (λ old new is_old is_new. let bad : None ≡ Some old = sym none ∙ is_old in cc))

pub returns-in_err-get_str-in-diff-2-clause-none : goal.returns-in_err-get_str-in-diff-2-clause-none
returns-in_err-get_str-in-diff-2-clause-none c =
    let f = found_of c.args.matches.now in
    let got : c.get_str-in-diff-2.result ≡ None = search rules in
    let named : c.args.name.now ≡ codes "diff" = search rules in
    let none : first_of (codes "new") (rows_of f) ≡ None =
    read f (codes "new") c.get_str-in-diff-2.result c.get_str-in-diff-2.ensures ∙ ap (option_map (λ s. s.now)) got in
    if_none c.from_residual-in_err-get_str-in-diff-2.result _ (no_diff c.args.name.now (rows_of f) named
    (λ old new is_old is_new. let bad : None ≡ Some new = sym none ∙ is_new in cc))
