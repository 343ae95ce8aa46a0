use Rattle.std.proofs.Common.{refl}
use Rattle.protocol.specs.Effects.{no_effects}
use Rattle.role_laws.proofs.Recording.{still_shown, prepare_records, accept_records, trim_records, start_records, promise_records, refuse_records, after_records, level_records}
use Rattle.role_laws.proofs.kept.each_row_is_shown.Goals as goal

pub returns : goal.returns
returns c = record {
  shown = still_shown;
  prepare = prepare_records;
  accept = λ ring link part. accept_records ring part link;
  trim = trim_records;
  start = start_records;
  promise = promise_records;
  refuse = refuse_records;
  proposing = λ ring link part. after_records ring part link (no_effects part) refl;
  levelling = λ ring link part. level_records ring part link;
}
