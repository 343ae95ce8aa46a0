mod ValueLaws
mod LogsLaws
mod TrimLaws
mod CallLaws
mod ReadLaws
