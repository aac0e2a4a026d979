-- How commands are written.
-- Assumes nothing.
use Rattle.std.specs.Prelude.{ℕ, List, codes}
use Rattle.commands.specs.declared.usage.Usage as usages
use Rattle.commands.specs.declared.usage.Usage.TheVariants.{Entry, Booking, Notice, Stamp, All, Unknown}

abbrev pub usage_text : usages.Usage → List ℕ
usage_text Entry = codes "usage: entry booking HEX, or entry notice HEX"
usage_text Booking = codes "usage: booking LINE FIRST LAST WORK CREW"
usage_text Notice = codes "usage: notice out LINE DAY, or notice word WORD"
usage_text Stamp = codes "usage: stamp SITE.NUMBER"
usage_text All =
    codes "commands: entry booking HEX; entry notice HEX; booking LINE FIRST LAST WORK CREW; notice out LINE DAY; notice word WORD; stamp SITE.NUMBER; sheet N SITE KIND HEX; sheet-file N SITE KIND PATH; help"
usage_text Unknown = codes "no such command: help lists them"
