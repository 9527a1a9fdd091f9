-- The text of tables is loaded as those tables, so tables have different texts.
use Rattle.std.proofs.Common.{◌≡◌, Ok, sym, ap, ◌∙◌}
use Rattle.tables.specs.Tables.{Tables}
use Rattle.heaps.specs.Rules.{Rules, Fits}
use Rattle.heaps.proofs.RuleTestsFault.{fault_none}
use Rattle.images.specs.Text.{listing_of, text_of}
use Rattle.images.specs.Reading.{tables_in, fault_or, ruled, loaded}
use Rattle.images.specs.ImageLaws.{LoadedText, TextOne}
use Rattle.images.proofs.TablesBack.{tables_back}
use Rattle.images.proofs.TablesWritten.{tables_placed, tables_whole, tables_written}
use Rattle.images.proofs.TextRead.{text_read}

tables_in_text : (t : Tables) → Rules t → Fits t → tables_in (text_of t) ≡ Ok t
tables_in_text t rules fits =
    text_read (listing_of t) (tables_placed t rules fits) (tables_written t rules fits) (tables_whole t rules fits)
    ∙ ap Ok (tables_back t fits.registers fits.saved)

pub loaded_text : LoadedText
loaded_text t rules fits =
    ap ruled (tables_in_text t rules fits)
    ∙ ap (fault_or t) ((fault_none t (record { registers = fits.registers; saved = fits.saved })).1 rules)

pub text_one : TextOne
text_one t u rt ft ru fu e =
    let same : ◌≡◌ (Ok t) (Ok u) = sym (loaded_text t rt ft) ∙ ap loaded e ∙ loaded_text u ru fu in
    cc
