-- The image that a view's slices of a file hold.
use Rattle.std.specs.Prelude.{◌≡◌, ◌%◌, length, option_map, option_copied, unwrap_or, []}
use Rattle.risc_image.specs.Image.{Image, IsWellFormed}
use Rattle.risc_image.specs.Format.{word_bytes}
use Rattle.risc_image.specs.Table.{words, frame_rows, object_rows, trap_rows, call_rows_of}
use Rattle.risc_image.specs.declared.view.ImageView.TheInside.{Inside}

abbrev pub image_of : Inside → Image
image_of a = record {
  global = a.global;
  code = words a.code.now;
  frames = frame_rows (words a.frames.now);
  objects = object_rows (words a.objects.now);
  traps = trap_rows (words a.traps.now);
  calls = option_map (λ table. call_rows_of (words table)) (option_copied a.calls);
}

-- The code is whole words, a table is whole rows, and the image is as the format requires.
pub record IsSound (a : Inside) : Type 0 where
  pub code : word_bytes (words a.code.now) ≡ a.code.now
  pub frames : length a.frames.now % 8 ≡ 0
  pub objects : length a.objects.now % 8 ≡ 0
  pub traps : length a.traps.now % 12 ≡ 0
  pub calls : length (unwrap_or (option_copied a.calls) []) % 8 ≡ 0
  pub well_formed : IsWellFormed (image_of a)
