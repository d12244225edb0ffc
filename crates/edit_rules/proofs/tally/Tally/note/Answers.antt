use Rattle.std.proofs.Common.{◌≡◌, ◌||◌, ◌∙◌, ap, is_some, arith}
use Rattle.std.specs.FinMap.{get}
use Rattle.project_model.specs.declared.change.Thing.TheVariants as things
use Rattle.project_model.specs.Projects.{ProjectData}
use Rattle.edit_rules.specs.Histories.{changes_thing}
use Rattle.edit_rules.specs.Weights.{weigh}
use Rattle.edit_rules.specs.HomeRows.{home_count}
use Rattle.edit_rules.specs.Tallies.{IsTallied, TallyData, have, weights_of}
use Rattle.edit_rules.specs.declared.weighing.Which.{Which}
use Rattle.project_model.specs.Changes.{put}
use Rattle.edit_rules.specs.declared.weighing.Which.TheVariants as which
use Rattle.edit_rules.proofs.HomeLemmas.{in_sheet_le}
use Rattle.edit_rules.proofs.RowLemmas.{homes_from, row_from}
use Rattle.edit_rules.proofs.tally.Tally.note.Goals as goal

pub rehome_all-requires-clause-counted : goal.rehome_all-requires-clause-counted
rehome_all-requires-clause-counted c = λ n.
    c.open_all.ensures.counted n ∙ ap (λ t. home_count (get t.rows.homes n)) c.self.view_is ∙ c.requires.tallied.homes n

pub rehome_all-requires-clause-few : goal.rehome_all-requires-clause-few
rehome_all-requires-clause-few c =
    λ n. let le = in_sheet_le n c.args.project.now.contents in let low = c.requires.tallied.low which.Objects in omega (arith, le, low)

pub rehome_all-requires-clause-home : goal.rehome_all-requires-clause-home
rehome_all-requires-clause-home c =
    let p = c.args.project.now.contents in
    let items = c.args.items.now in
    homes_from (put p items) c.open_all.new.homes.rows
    (row_from p items c.args.self.now.rows.homes c.open_all.new.homes.rows c.requires.tallied.known
    (λ n. c.open_all.ensures.there n ∙ ap (λ t. is_some (get t.rows.homes n) || changes_thing (things.SheetName n) items) c.self.view_is))
    items c.requires.placed

pub returns : goal.returns
returns c = record { tallied = tallied }
  where
    after : ProjectData
    after = put c.args.project.now.contents c.args.items.now

    made : TallyData
    made = record {
      objects = c.after-objects.result;
      sheets = c.after-sheets.result;
      symbols = c.after-symbols.result;
      text = c.after-text.result;
      homes = c.rehome_all.new.homes.rows;
    }

    numbers_are : (w : Which) → have made w ≡ weigh (weights_of w) after
    numbers_are which.Objects = let low = c.requires.low which.Objects in c.after-objects.ensures.exact (omega (arith, low))
    numbers_are which.Sheets = let low = c.requires.low which.Sheets in c.after-sheets.ensures.exact (omega (arith, low))
    numbers_are which.Symbols = let low = c.requires.low which.Symbols in c.after-symbols.ensures.exact (omega (arith, low))
    numbers_are which.Text = let low = c.requires.low which.Text in c.after-text.ensures.exact (omega (arith, low))

    tallied : IsTallied after made
    tallied = record {
      numbers = numbers_are;
      homes = c.rehome_all.ensures.counted;
      known = λ n there. c.rehome_all.ensures.kept n
          ∙ row_from c.args.project.now.contents c.args.items.now c.args.self.now.rows.homes c.open_all.new.homes.rows c.requires.tallied.known
          (λ m. c.open_all.ensures.there m ∙ ap (λ t. is_some (get t.rows.homes m) || changes_thing (things.SheetName m) c.args.items.now) c.self.view_is)
          n there;
      low = c.requires.low;
    }
