-- Who has locked a folder, as text.
use Rattle.std.specs.Prelude.{ℕ, List, ◌++◌, codes, decimal}
use Rattle.folder_lock.specs.declared.holder.Holder.{Holder}
use Rattle.folder_lock.specs.declared.holder.Holder.TheVariants.{Process, Another}

-- for people
abbrev pub holder_text : Holder → List ℕ
holder_text (Process number) = codes "process " ++ decimal number ++ codes " has it"
holder_text Another = codes "another process has it (see the file lock there)"
