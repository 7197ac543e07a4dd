mod RackLaws
mod ShelfLaws
