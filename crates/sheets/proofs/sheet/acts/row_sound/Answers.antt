use Rattle.sheets.proofs.sheet.acts.row_sound.Goals as goal

pub stage_sound-requires : goal.stage_sound-requires
stage_sound-requires c = c.facilities-facilities.ensures.few
