mod Shelf
mod ShelfRoom
