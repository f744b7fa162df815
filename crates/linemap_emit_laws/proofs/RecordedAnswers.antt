-- What is answered over sections that say what a table says.
use Rattle.std.proofs.Common.{Bool, List, [], refl}
use Rattle.linemap_emit_units.specs.Encoding.{Encoding}
use Rattle.linemap_emit_units.specs.DwarfFiles.{DwarfFile}
use Rattle.linemap_emit_units.specs.Contexts.{ranges_of, lines_of}
use Rattle.linemap_emit_units.specs.TableParts.{UnitPart}
use Rattle.linemap_emit_units.specs.Conditions.{IsSound}
use Rattle.linemap_emit_units.specs.Rule.TheVariants.{NoRange}
use Rattle.linemap_emit_units.specs.Entry.{Entry}
use Rattle.linemap_emit_units.proofs.SoundUnits.{sound_rule}
use Rattle.linemap_emit_units.proofs.TableLocations.{locations_meet}
use Rattle.linemap_stretches_laws.proofs.TableLookupStretches.{stretches_meet}
use Rattle.linemap_emit_laws.specs.RecordedTables.{RecordsTable}
use Rattle.linemap_emit_laws.specs.RecordedTableLaws.{AnswersTable, HasNoLanguage}
use Rattle.linemap_emit_laws.proofs.RecordedContexts.{agreeing_units, table_agrees, context_again, all_units}
use Rattle.linemap_emit_laws.proofs.RecordedFrames.{frames_again, none_split}

-- its places, its frames and its stretches are the table's
pub answers_again : (e : Encoding) (is_big : Bool) (s : DwarfFile) (us : List UnitPart)
    (all : List (List Entry)) → RecordsTable e is_big s us all → IsSound us → AnswersTable s us
answers_again e is_big s us all t sound =
    let units = agreeing_units e is_big s us all t.units_are_recorded 0 t.info_first in
    let agrees = table_agrees e is_big s us all t.units_are_recorded 0 t.info_first in
    record {
      found = record { units = units; supplement_units = [] };
      is_context = context_again e is_big s us all t (sound_rule us NoRange sound);
      has_no_split_part = none_split e is_big s us all t.units_are_recorded 0 t.info_first;
      has_no_language = all_units e is_big s HasNoLanguage (λ u xs say offset first. refl) us all t.units_are_recorded 0
          t.info_first;
      places = λ a. locations_meet ranges_of lines_of us units a sound agrees;
      frames_are = λ answers a. frames_again e is_big s us all t.units_are_recorded 0 t.info_first answers a sound
          t.encoding_is_written t.is_main;
      stretches_are = λ low high. stretches_meet ranges_of lines_of us units low high sound agrees;
    }
