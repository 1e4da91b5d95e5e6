-- The table of required names is that of the definition.
use Rattle.std.proofs.Common.{◌≡◌, map, refl}
use Rattle.ps_check_names.specs.Regions.{BlockRegion}
use Rattle.ps_check.specs.declared.program.TheConstants.{REQUIRED}
use Rattle.ps_check.specs.Programs.{Files, no_files, add_required, add_all_required, required, required_names}
use Rattle.ps_check.specs.Programs.{required_types, required_routines, left_out}
use Rattle.ps_check.specs.Views.{standard_meaning}

abbrev all_files : Files
all_files = add_all_required no_files (map (λ e. (e.0.now, standard_meaning e.1)) REQUIRED)

pub required_is : required ≡ BlockRegion 0 all_files.names all_files.known
unfolding add_required standard_meaning required required_names required_types required_routines left_out
required_is = refl
